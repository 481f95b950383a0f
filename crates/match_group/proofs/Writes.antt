-- The parts of a listing are written: what was noted gives what was measured. Assumes nothing.
use mathlib.Core.Path.{◌≡◌, refl, sym, ap, ◌∙◌}
use mathlib.Core.Bool.{Bool, true, false}
use mathlib.Core.List.{List, ◌++◌}
use Prim.Native.Nat.{ℕ, ◌+◌, ◌-◌, ◌≤◌, ◌<◌}
use native.Mathlib.Omega.{arith}
use lib.ListN.{length, take, length-append}
use lib.Seq.{length-take-le}
use Rattle.meaning.specs.Bytes.{Text, each}
use Rattle.buffer.specs.Splice.{splice, Puts}
use Rattle.buffer.proofs.Splices.{length-splice, splice-next}
use Rattle.buffer.proofs.Writing.{Writing, writing-starts, writing-room, writing_more, written-place, written-whole}
use Rattle.match_row.specs.Asking.{}
use Rattle.search.specs.Hits.{across, spec_gives, group_gives, objects_give, first_bytes, spec_hits, group_hits, object_hits, first_hits, hit_bytes}
use Rattle.search.specs.Noting.{PlacesIn, Adds, Good, AllGood}
use Rattle.search.proofs.Across.{across-next, across-none}
use Rattle.search.proofs.Given.{Gives, gives_none, gives_both, gives-good, spec-gives, group-gives, objects-give, spec-few-hits, objects-few-hits}
use Rattle.match_group.specs.Listing.{table_bytes, table_hits, Noted}

-- ---- what comes first

-- there are no more such hits than specs
first-few : (back : Bool) (specs : Text) (table : List ℕ) (group : ℕ) → length (first_hits back specs table group) ≤ group
first-few true specs table group = omega arith
first-few false specs table group = objects-few-hits specs table group

-- ---- what is noted

module _ (back : Bool) (gone : Text → Bool) (specs : Text) (table : List ℕ) (group : ℕ) (items : Text) (places : List ℕ) (n : ℕ) (before middle : List ℕ) (objects : ℕ) (a : Adds before 0 (first_hits back specs table group) middle objects) (after : List ℕ) (all : ℕ) (b : Adds middle objects (group_hits back gone specs table group items places n) after all) where
  both_long : length after ≡ length before
  both_long = b.long ∙ a.long

  module _ (room : group ≤ length before) where
    pub first_fits : objects ≤ length after
    first_fits = omega (arith, a.fits (omega (arith, first-few back specs table group)), both_long, first-few back specs table group)

    pub first-noted : Noted after objects (first_hits back specs table group)
    first-noted = record { are = λ h. (b.kept objects (omega arith) (omega (arith, b.long))).1 ∙ a.adds (omega (arith, both_long)) }

    pub all_noted : Noted after all (table_hits back gone specs table group items places n)
    all_noted = record { are = λ h. b.adds (omega (arith, b.long)) ∙ ap (λ (l : List ℕ). l ++ group_hits back gone specs table group items places n) (a.adds (omega (arith, first_fits, both_long))) }

-- so many of some hits
pub taken-long : (hits : List ℕ) (noted : ℕ) → noted ≤ length hits → noted ≡ length (take noted hits)
taken-long hits noted h = sym (length-take-le noted hits h)

-- ---- what the hits give

module _ (back : Bool) (specs : Text) (table : List ℕ) (group : ℕ) (items : Text) (places : List ℕ) (n : ℕ) (p : PlacesIn items places n) where
  abbrev f : ℕ → Text
  f = hit_bytes back specs table items places

  abbrev good : ℕ → Type 0
  good = Good back specs table group items places n

  first-give : Gives f good (first_hits back specs table group) (first_bytes back specs table group)
  first-give = go back
    where
      go : (back : Bool) → Gives (hit_bytes back specs table items places) (Good back specs table group items places n) (first_hits back specs table group) (first_bytes back specs table group)
      go true = gives_none (hit_bytes true specs table items places) (Good true specs table group items places n)
      go false = objects-give false specs table group items places n p.few

  table-give : (gone : Text → Bool) → Gives f good (table_hits back gone specs table group items places n) (table_bytes back gone specs table group items places n)
  table-give gone = gives_both f good (first_hits back specs table group) (group_hits back gone specs table group items places n) (first_bytes back specs table group) (group_gives back gone specs table group items places n) first-give (group-gives back specs table group items places n p.few gone)

  -- hits that are noted
  module _ (codes : List ℕ) (t : Text) (g : Gives f good codes t) (hits : List ℕ) (e : hits ≡ codes) where
    are-good : AllGood back specs table group items places n hits
    are-good = rw e (gives-good back specs table group items places n p.few codes t g)

    are-given : each hits f ≡ t
    are-given = rw e g.gives

  module _ (hits : List ℕ) (noted : ℕ) (h : noted ≤ length hits) where
    -- those of what comes first
    module _ (e : Noted hits noted (first_hits back specs table group)) where
      pub first_good : AllGood back specs table group items places n (take noted hits)
      first_good = are-good (first_hits back specs table group) (first_bytes back specs table group) first-give (take noted hits) (e.are h)

      given-first : each (take noted hits) f ≡ first_bytes back specs table group
      given-first = are-given (first_hits back specs table group) (first_bytes back specs table group) first-give (take noted hits) (e.are h)

      module _ (gone : Text → Bool) (d : Text) (fits : length (table_bytes back gone specs table group items places n) ≤ length d) where
        abbrev a : Text
        a = first_bytes back specs table group

        abbrev b : Text
        b = group_gives back gone specs table group items places n

        pub first-room : 0 + length (each (take noted hits) (hit_bytes back specs table items places)) ≤ length d
        first-room = rw given-first (omega (arith, length-append a b))

        module _ (o : Text) (at : ℕ) (q : Puts d 0 (each (take noted hits) (hit_bytes back specs table items places)) o at) where
          put : Puts d 0 a o at
          put = rw given-first at q

          pub second-room : at + length (group_gives back gone specs table group items places n) ≤ length o
          second-room = omega (arith, length-append a b, put.1, ap length put.0, length-splice d 0 a (omega (arith, length-append a b)))

          pub both-put : (o₂ : Text) (e₂ : ℕ) → Puts o at (group_gives back gone specs table group items places n) o₂ e₂ → o₂ ≡ splice d 0 (table_bytes back gone specs table group items places n)
          both-put o₂ e₂ r = r.0 ∙ ap (λ (q : Text). splice q at b) put.0 ∙ splice-next d 0 a b at (omega (arith, length-append a b)) put.1

    -- all of them
    module _ (gone : Text → Bool) (e : Noted hits noted (table_hits back gone specs table group items places n)) where
      pub all-good : AllGood back specs table group items places n (take noted hits)
      all-good = are-good (table_hits back gone specs table group items places n) (table_bytes back gone specs table group items places n) (table-give gone) (take noted hits) (e.are h)

      given-all : each (take noted hits) f ≡ table_bytes back gone specs table group items places n
      given-all = are-given (table_hits back gone specs table group items places n) (table_bytes back gone specs table group items places n) (table-give gone) (take noted hits) (e.are h)

      pub all_room : (d : Text) → length (table_bytes back gone specs table group items places n) ≤ length d → 0 + length (each (take noted hits) (hit_bytes back specs table items places)) ≤ length d
      all_room d l = rw given-all (omega arith)

      pub all-put : (d o : Text) (k : ℕ) → Puts d 0 (each (take noted hits) (hit_bytes back specs table items places)) o k → o ≡ splice d 0 (table_bytes back gone specs table group items places n)
      all-put d o k q = rw given-all at q.0

  -- those of one spec
  module _ (gone : Text → Bool) (i : ℕ) (l : i < group) (before hits : List ℕ) (noted : ℕ) (a : Adds before 0 (spec_hits back gone specs table items places n i) hits noted) (room : n ≤ length before) where
    pub spec-fits : noted ≤ length hits
    spec-fits = omega (arith, a.fits (omega (arith, spec-few-hits back gone specs table items places n i)), a.long, spec-few-hits back gone specs table items places n i)

    taken : take noted hits ≡ spec_hits back gone specs table items places n i
    taken = a.adds (omega (arith, a.long, spec-fits))

    pub spec-good : AllGood back specs table group items places n (take noted hits)
    spec-good = are-good (spec_hits back gone specs table items places n i) (spec_gives back gone specs table items places n i) (spec-gives back specs table group items places n p.few gone i l) (take noted hits) taken

    given-spec : each (take noted hits) f ≡ spec_gives back gone specs table items places n i
    given-spec = are-given (spec_hits back gone specs table items places n i) (spec_gives back gone specs table items places n i) (spec-gives back specs table group items places n p.few gone i l) (take noted hits) taken

    pub spec-room : (d : Text) (at : ℕ) → at + length (spec_gives back gone specs table items places n i) ≤ length d → at + length (each (take noted hits) (hit_bytes back specs table items places)) ≤ length d
    spec-room d at h = rw given-spec h

    pub spec-put : (d : Text) (at : ℕ) (o : Text) (k : ℕ) → Puts d at (each (take noted hits) (hit_bytes back specs table items places)) o k → Puts d at (spec_gives back gone specs table items places n i) o k
    spec-put d at o k q = rw given-spec at q

pub noted-long : (hits : List ℕ) (count : ℕ) (codes after : List ℕ) (noted : ℕ) → Adds hits count codes after noted → length after ≡ length hits
noted-long hits count codes after noted a = a.long

-- ---- the specs one after the other

-- what the specs from number i on give is still to be written
abbrev pub SpecsWritten : Bool → (Text → Bool) → Text → List ℕ → ℕ → Text → List ℕ → ℕ → Text → ℕ → ℕ → Text → ℕ → Type 0
SpecsWritten back gone specs table group items places n first at i out end = Writing first at (group_gives back gone specs table group items places n) out end (across (spec_gives back gone specs table items places n) i (group - i))

module _ (back : Bool) (gone : Text → Bool) (specs : Text) (table : List ℕ) (group : ℕ) (items : Text) (places : List ℕ) (n : ℕ) (first : Text) (at : ℕ) where
  abbrev g : ℕ → Text
  g = spec_gives back gone specs table items places n

  pub specs-begin : at + length (group_gives back gone specs table group items places n) ≤ length first → SpecsWritten back gone specs table group items places n first at 0 first at
  specs-begin h = let e : group - 0 ≡ group = omega arith in rw e (writing-starts first at (across g 0 group) h)

  module _ (i : ℕ) (out : Text) (end : ℕ) (w : SpecsWritten back gone specs table group items places n first at i out end) where
    pub specs-room : i < group → end + length (spec_gives back gone specs table items places n i) ≤ length out
    specs-room h = writing-room first at (across g 0 group) out end (across g i (group - i)) w (g i) (across g (i + 1) (group - (i + 1))) (across-next g i group h)

    pub specs-next : i < group → (o : Text) (e : ℕ) → Puts out end (spec_gives back gone specs table items places n i) o e → SpecsWritten back gone specs table group items places n first at (i + 1) o e
    specs-next h o e q = writing_more first at (across g 0 group) out end (across g i (group - i)) w (g i) (across g (i + 1) (group - (i + 1))) (across-next g i group h) o e q.0 q.1

    pub specs-end : group ≤ i → Puts first at (group_gives back gone specs table group items places n) out end
    specs-end h =
        let e = across-none g i group h in
        (written-whole first at (across g 0 group) out end (across g i (group - i)) w e, written-place first at (across g 0 group) out end (across g i (group - i)) w e)
