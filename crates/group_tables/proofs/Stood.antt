-- Specs that are noted one after the other stand in the table, and their negatives apart. Assumes nothing.
use mathlib.Core.Path.{◌≡◌, refl, sym, ◌∙◌}
use mathlib.Core.Bool.{Bool, true, false, true≢false}
use mathlib.Core.List.{List}
use mathlib.Core.Logic.{◌⊎◌, inl, inr}
use Prim.Native.Nat.{ℕ, ◌+◌, ◌*◌, ◌≤◌, ◌<◌}
use native.Mathlib.Nat.{eq-or-lt_of_le}
use native.Mathlib.Omega.{arith}
use lib.ListN.{length, take}
use lib.Seq.{take_all}
use Rattle.meaning.specs.Bytes.{Text}
use Rattle.meaning.specs.Limits.{spec_list_bytes}
use Rattle.meaning.specs.Spec.{Spec, is_negative}
use Rattle.parse.specs.declared.types.RefSpec.{RefSpec}
use Rattle.parse.specs.Places.{mode_meant, spec_meant, SidesWithin}
use Rattle.sides.proofs.Told.{side-wider}
use Rattle.matcher.specs.declared.types.Matcher.{Matcher}
use Rattle.matcher.specs.Matching.{Matches, MatcherWithin}
use Rattle.matcher_table.specs.Numbers.{matcher_at, no_matcher, PutMatcher}
use Rattle.negatives.specs.Negatives.{negative_numbers, Negatives}
use Rattle.negatives.specs.Making.{Added}
use Rattle.negatives.proofs.Filling.{negatives-none, negatives-next}
use Rattle.spec_list.specs.declared.record.SpecRecord.{SpecRecord}
use Rattle.spec_list.specs.Table.{spec_from_record, blank, record_at}
use Rattle.spec_list.specs.Group.{record_meant, group_meant}
use Rattle.group_tables.specs.Standing.{StandsFor, NotedAt, Notable, NotedAll}

-- ---- one spec

matcher-more : (m : Matcher) (n k : ℕ) → n ≤ k → MatcherWithin n m → MatcherWithin k m
matcher-more m n k h w = record { src-within = side-wider n k m.src h w.src-within; dst-within = side-wider n k m.dst h w.dst-within; lhs-within = w.lhs-within; rhs-within = w.rhs-within }

module _ (specs : Text) (r : RefSpec) (b : Bool) (is : b ≡ is_negative (mode_meant r.mode)) (m : Matcher) where
  pub stands-negative : b ≡ true → m ≡ no_matcher → StandsFor specs (spec_meant specs r) m
  unfolding spec_meant
  stands-negative e h = record { negative = λ p. h; positive = λ p. absurd (true≢false (sym e ∙ is ∙ p)) }

  pub stands-positive : b ≡ false → Matches specs (spec_meant specs r) m → StandsFor specs (spec_meant specs r) m
  unfolding spec_meant
  stands-positive e h = record { negative = λ p. absurd (true≢false (sym p ∙ sym is ∙ e)); positive = λ p. h }

pub none_within : (m : Matcher) → m ≡ no_matcher → MatcherWithin spec_list_bytes m
none_within m e = rw e (record { src-within = tt; dst-within = tt; lhs-within = tt; rhs-within = tt })

pub match-within : (specs : Text) (s : Spec) (m : Matcher) → Matches specs s m → length specs ≤ spec_list_bytes → MatcherWithin spec_list_bytes m
match-within specs s m h l = matcher-more m (length specs) spec_list_bytes l h.within

-- a spec that its record tells
module _ (specs : Text) (q : SpecRecord) (r : RefSpec) (is : r ≡ spec_from_record q) where
  pub record-sides : SidesWithin (length specs) (spec_from_record q) → SidesWithin (length specs) r
  record-sides h = rw is h

  pub noted-at : (m : Matcher) → StandsFor specs (spec_meant specs r) m → (before : List ℕ) (i : ℕ) (after : List ℕ) → PutMatcher before i m after → NotedAt specs (record_meant specs q) before i after
  noted-at m h before i after p = record { size = p.size; kept = p.kept; there = rw (p.there, ← is) h }

  pub added-record : (t u : List ℕ) (k n : ℕ) → Added specs (spec_meant specs r) t k u n → Added specs (record_meant specs q) t k u n
  added-record t u k n a = rw is at a

-- ---- the specs before number i

pub record Stood (specs : Text) (records : List SpecRecord) (table₀ table negatives₀ negatives : List ℕ) (count i : ℕ) : Type 0 where
  pub here : i ≤ length records
  pub room : length table ≡ length table₀
  pub room₂ : length negatives ≡ length negatives₀
  pub stand : (j : ℕ) → j < i → StandsFor specs (record_meant specs (record_at records j)) (matcher_at table j)
  pub exclude : Negatives specs (group_meant specs (take i records)) negatives count
  pub small : count ≤ i

module _ (specs : Text) (records : List SpecRecord) (ready : Notable specs records) where
  pub stood-none : (table negatives : List ℕ) → Stood specs records table table negatives negatives 0 0
  stood-none table negatives =
      record {
        here = omega arith;
        room = refl;
        room₂ = refl;
        stand = λ j h. absurd (omega arith);
        exclude = negatives-none specs negatives;
        small = omega arith;
      }

  module _ (table₀ table negatives₀ negatives : List ℕ) (count i : ℕ) (s : Stood specs records table₀ table negatives₀ negatives count i) where
    pub stood-next : i < length records → negative_numbers * length records ≤ length negatives₀ → (q : SpecRecord) → q ≡ record_at records i → (after : List ℕ) → NotedAt specs (record_meant specs q) table i after
        → (next : List ℕ) (n : ℕ) → Added specs (record_meant specs q) negatives count next n → Stood specs records table₀ after negatives₀ next n (i + 1)
    stood-next h l q e after p next n a =
        record {
          here = omega arith;
          room = p.size ∙ s.room;
          room₂ = a.size ∙ s.room₂;
          stand = λ j k. at j (eq-or-lt_of_le (le_of j k));
          exclude = negatives-next specs negatives count next n (omega (arith, s.room₂, s.small)) (omega (arith, s.small, ready.few)) (record_meant specs) records i h blank s.exclude (rw e at a);
          small = omega (arith, s.small, a.one);
        }
      where
        le_of : (j : ℕ) → j < i + 1 → j ≤ i
        le_of j k = omega arith

        at : (j : ℕ) → (j ≡ i) ⊎ (j < i) → StandsFor specs (record_meant specs (record_at records j)) (matcher_at after j)
        at j (inl y) = rw (y, ← e) p.there
        at j (inr k) = rw (p.kept j (λ y. omega arith)) (s.stand j k)

    pub stood-all : length records ≤ i → NotedAll specs records table negatives count
    stood-all h =
        let e : take i records ≡ records = take_whole i records (omega (arith, s.here)) in
        record { stand = λ j k. s.stand j (omega (arith, s.here)); exclude = rw e at s.exclude }
      where
        take_whole : (n : ℕ) (l : List SpecRecord) → length l ≤ n → take n l ≡ l
        take_whole n l k = take_all n l k

    pub stood-sides : i < length records → (q : SpecRecord) → q ≡ record_at records i → SidesWithin (length specs) (spec_from_record q)
    stood-sides h q e = rw e (ready.sides i h)
