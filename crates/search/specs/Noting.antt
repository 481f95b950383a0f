-- What the search for hits and the writing of their rows ask and answer.
use Rattle.std.specs.Prelude.{ℕ, ◌+◌, ◌-◌, ◌*◌, ◌/◌, ◌%◌, ◌≤◌, ◌<◌, ◌≡◌, Bool, false, cond, List, ◌++◌, leb, length, take, get_or}
use Rattle.std.proofs.Math.Option.{none}
use Rattle.meaning.specs.Bytes.{Text}
use Rattle.meaning.specs.Limits.{name_bytes, item_list_bytes, item_count, spec_count}
use Rattle.buffer.specs.Splice.{splice}
use Rattle.matcher.specs.declared.types.Matcher.{Matcher}
use Rattle.matcher_table.specs.Numbers.{matcher_numbers, matcher_at}
use Rattle.filter.specs.declared.Filter.{Filter}
use Rattle.filter.specs.Filters.{passes, FilterWithin}
use Rattle.row.specs.Rows.{row_most}
use Rattle.match_row.specs.Pairs.{matcher_spec, ends_in}
use Rattle.match_row.specs.Asking.{MatcherReady}
use Rattle.search.specs.Hits.{hit_stride, hit_bytes}

-- so many bytes has at most what one spec gives, what all specs give, and what they give as object sources
abbrev pub spec_most : ℕ
spec_most = item_count * row_most

abbrev pub group_most : ℕ
group_most = spec_count * spec_most

abbrev pub objects_most : ℕ
objects_most = spec_count * row_most

-- a table of hits has room for at most so many: each spec as an object source, and one for each name
abbrev pub hit_room : ℕ
hit_room = spec_count + item_count

-- the names of a list stand at the first n places, two numbers each
pub record PlacesIn (items : Text) (places : List ℕ) (n : ℕ) : Type 0 where
  pub few : n ≤ item_count
  pub small : length items ≤ item_list_bytes
  pub room : 2 * n ≤ length places
  pub within : (j : ℕ) → j < n → get_or places (2 * j) 0 + get_or places (2 * j + 1) 0 ≤ length items
  pub short : (j : ℕ) → j < n → get_or places (2 * j + 1) 0 ≤ name_bytes

-- the first n matchers of a table are those of specs
pub record TableReady (specs : Text) (table : List ℕ) (n : ℕ) : Type 0 where
  pub few : n ≤ spec_count
  pub room : matcher_numbers * n ≤ length table
  pub ready : (i : ℕ) → i < n → MatcherReady specs (matcher_at table i)

-- what a filter stops has no row under the spec of a matcher, forward or in reverse
pub record Stops (back : Bool) (specs : Text) (m : Matcher) (f : Filter) : Type 0 where
  pub stops : (name : Text) → length name ≤ name_bytes → passes f name ≡ false → ends_in back (matcher_spec specs m) name ≡ none
  pub within : FilterWithin f

-- how many hits are noted once t was noted after the first count: one more than there is room for where not all of it was
unfoldable pub noted_after : ℕ → ℕ → List ℕ → ℕ
noted_after room count t = cond (leb (count + length t) room) (count + length t) (room + 1)

-- t was noted after the first count hits, as far as there was room; so all of it where there was room for all, and those before it are
-- kept
pub record Adds (hits : List ℕ) (count : ℕ) (t after : List ℕ) (next : ℕ) : Type 0 where
  pub written : count ≤ length hits + 1 → after ≡ splice hits count (take (length hits - count) t)
  pub known : count ≤ length hits + 1 → next ≡ noted_after (length hits) count t
  pub long : length after ≡ length hits
  pub adds : next ≤ length hits → take next after ≡ take count hits ++ t
  pub before : next ≤ length hits → count ≤ length hits
  pub fits : count + length t ≤ length hits → next ≡ count + length t
  pub kept : (k : ℕ) → k ≤ count → k ≤ length hits → (k ≤ next) × (take k after ≡ take k hits)

-- a hit is of a spec and an item field that are there, and gives something
pub record Good (back : Bool) (specs : Text) (table : List ℕ) (group : ℕ) (items : Text) (places : List ℕ) (n hit : ℕ) : Type 0 where
  pub spec-there : hit / hit_stride < group
  pub item-there : hit % hit_stride ≤ n
  pub gives : 0 < length (hit_bytes back specs table items places hit)

-- so are some hits
pub record AllGood (back : Bool) (specs : Text) (table : List ℕ) (group : ℕ) (items : Text) (places : List ℕ) (n : ℕ) (hits : List ℕ) : Type 0 where
  pub each-good : (k : ℕ) → k < length hits → Good back specs table group items places n (get_or hits k 0)
