-- The bytes of a listing, spec by spec and item by item, as the loops write them. proofs/Listings.antt shows that they are the bytes of
-- the meaning's rows.
use Rattle.std.specs.Prelude.{ℕ, suc, ◌≤◌, Bool, true, false, cond, ◌≡◌, List, [], ◌∷◌, ◌++◌, length, take}
use Rattle.std.proofs.Math.Option.{some}
use Rattle.meaning.specs.Bytes.{Text}
use Rattle.meaning.specs.Spec.{Answer, accepted, Spec, is_negative}
use Rattle.meaning.specs.Lists.{read_items}
use Rattle.meaning.specs.Buffers.{Outputs}
use Rattle.meaning.specs.Entries.{◌and_then◌, match_lhs, match_rhs}
use Rattle.meaning.specs.Rows.{Row, row_list_of}
use Rattle.meaning.specs.Listing.{forward_rows, reverse_rows}
use Rattle.match_row.specs.Pairs.{item_bytes, object_bytes}
use Rattle.search.specs.Hits.{group_gives, first_bytes, group_hits, first_hits}

-- how many specs are few
abbrev pub few_specs : ℕ
few_specs = 16

-- what each member gives with its number, counting up from n
abbrev pub each_from : {A B : Type 0} → (ℕ → A → List B) → ℕ → List A → List B
each_from f n [] = []
each_from f n (x ∷ l) = f n x ++ each_from f (suc n) l

-- the rows of a listing, forward or in reverse
abbrev pub listing_rows : Bool → List Spec → List Text → List Row
listing_rows true = reverse_rows
listing_rows false = forward_rows

-- what a spec gives for each name, their numbers counting up from n
abbrev pub items_from : (ℕ → Text → Spec → Text) → ℕ → List Text → Spec → Text
items_from f n names s = each_from (λ j name. f j name s) n names

-- those of spec i, by item; a negative spec has none
unfoldable pub bytes_of_spec : Bool → (Text → Bool) → List Text → ℕ → Spec → Text
bytes_of_spec reverse gone names i s = cond (is_negative s.mode) [] (items_from (item_bytes reverse gone i) 0 names s)

-- what the loops of a listing write: forward, the objects' rows first
abbrev pub listing_bytes : Bool → (Text → Bool) → List Spec → List Text → Text
listing_bytes true gone group names = each_from (bytes_of_spec true gone names) 0 group
listing_bytes false gone group names = each_from object_bytes 0 group ++ each_from (bytes_of_spec false gone names) 0 group

-- what the listing of a group answers on an item list
abbrev pub listing : Bool → List Spec → Text → Answer Outputs
listing back group items = read_items items and_then λ names. accepted (some (row_list_of (listing_rows back group names)) ∷ [])

-- what a listing answers, forward or in reverse
abbrev pub listing_answer : Bool → ℕ → Text → Text → Answer Outputs
listing_answer true = match_rhs
listing_answer false = match_lhs

-- the bytes of a listing of a table and of places
abbrev pub table_bytes : Bool → (Text → Bool) → Text → List ℕ → ℕ → Text → List ℕ → ℕ → Text
table_bytes back gone specs table group items places n = first_bytes back specs table group ++ group_gives back gone specs table group items places n

-- and their hits
abbrev pub table_hits : Bool → (Text → Bool) → Text → List ℕ → ℕ → Text → List ℕ → ℕ → List ℕ
table_hits back gone specs table group items places n = first_hits back specs table group ++ group_hits back gone specs table group items places n

-- so many hits, if there was room for all, are these
pub record Noted (hits : List ℕ) (noted : ℕ) (codes : List ℕ) : Type 0 where
  pub are : noted ≤ length hits → take noted hits ≡ codes
