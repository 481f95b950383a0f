-- False variants of document 02, W1: statements near it. FalseCollisionVariants says that none of them holds.
use Rattle.std.specs.Prelude.{◌≤◌, ◌≡◌, true, [], length}
use Rattle.std.proofs.Math.Option.{none, some}
use Rattle.meaning.specs.Bytes.{Text, ◌and◌, ◌or◌, begins, ends}
use Rattle.meaning.specs.Limits.{name_bytes}
use Rattle.meaning.specs.Names.{name_passes}
use Rattle.meaning.specs.Spec.{accepted, Spec}
use Rattle.meaning.specs.Match.{literal, pattern, form_of, completed, mapped, forward}
use Rattle.meaning.specs.Listing.{reverse_rows}
use Rattle.meaning.specs.Collide.{collision, collide, collide_bytes}
use Rattle.promises.specs.Terms.{TwoSpecs, MaybeCall, MetMaybe}
use Rattle.promises.specs.Collisions.{WrittenTo, NoneIn}

-- What is written

-- the two names differ: validation would see a conflict
abbrev pub YesByTwoNames : Type 0
YesByTwoNames =
    (t u : Text) (s r : Spec) (d : Text)
    → TwoSpecs 0 t u s r
    → collide t u ≡ accepted (some d)
    → (n : Text) × (m : Text) × (forward s n ≡ mapped (some d)) × (forward r m ≡ mapped (some d)) × (n ≡ m → ⊥)

-- an object source does not count
abbrev pub YesByNames : Type 0
YesByNames =
    (t u : Text) (s r : Spec) (d : Text)
    → TwoSpecs 0 t u s r
    → collide t u ≡ accepted (some d)
    → (n : Text) × (forward s n ≡ mapped (some d))

-- the names fit question 15, on some destination
abbrev pub YesByShortNames : Type 0
YesByShortNames =
    (t u : Text) (s r : Spec) (d : Text)
    → TwoSpecs 0 t u s r
    → collide t u ≡ accepted (some d)
    → (e : Text) × (n : Text) × (m : Text) × (length n ≤ name_bytes) × (length m ≤ name_bytes) × (forward s n ≡ mapped (some e)) × (forward r m ≡ mapped (some e))

-- the names pass the name rules, on some destination
abbrev pub YesByGoodNames : Type 0
YesByGoodNames =
    (t u : Text) (s r : Spec) (d : Text)
    → TwoSpecs 0 t u s r
    → collide t u ≡ accepted (some d)
    → (e : Text) × (n : Text) × (name_passes n ≡ true) × (forward s n ≡ mapped (some e)) × WrittenTo r e

-- the specs need not be accepted
abbrev pub YesOfAnySpecs : Type 0
YesOfAnySpecs = (s r : Spec) (d : Text) → collision s r ≡ some d → WrittenTo s d

-- The destination

-- the destination of a yes has a byte
abbrev pub YesIsNotEmpty : Type 0
YesIsNotEmpty = (t u : Text) (d : Text) → collide t u ≡ accepted (some d) → d ≡ [] → ⊥

-- so the length tells a no
abbrev pub NoByLength : Type 0
NoByLength = (t u : Text) (c : MaybeCall) → MetMaybe (collide_bytes t u) c → c.refusal ≡ 0 → c.size ≡ 0 → collide t u ≡ accepted none

-- literal destinations count as they are spelt
abbrev pub LiteralsAsSpelt : Type 0
LiteralsAsSpelt =
    (t u : Text) (s r : Spec) (d e : Text)
    → TwoSpecs 0 t u s r
    → s.destination ≡ some d
    → form_of d ≡ literal d
    → r.destination ≡ some e
    → form_of e ≡ literal e
    → (d ≡ e → ⊥)
    → collide t u ≡ accepted none

-- start and end of a pattern may overlap in a literal
abbrev pub OverlapCounts : Type 0
OverlapCounts =
    (t u : Text) (s r : Spec) (d e a b : Text)
    → TwoSpecs 0 t u s r
    → s.destination ≡ some d
    → form_of d ≡ literal d
    → r.destination ≡ some e
    → form_of e ≡ pattern a b
    → (begins a (completed d) and ends b (completed d)) ≡ true
    → collide t u ≡ accepted (some (completed d))

-- two patterns collide if one start begins the other
abbrev pub StartsAreEnough : Type 0
StartsAreEnough =
    (t u : Text) (s r : Spec) (d e a b a' b' : Text)
    → TwoSpecs 0 t u s r
    → s.destination ≡ some d
    → form_of d ≡ pattern a b
    → r.destination ≡ some e
    → form_of e ≡ pattern a' b'
    → (begins a a' or begins a' a) ≡ true
    → collide t u ≡ accepted none
    → ⊥

-- Listings

-- after a no, no reverse listing has a row of the one and a row of the other with one destination either
abbrev pub NoInReverseListing : Type 0
NoInReverseListing = NoneIn reverse_rows

-- The order

-- it does not matter where a spec is refused
abbrev pub EitherOrderThoughRefused : Type 0
EitherOrderThoughRefused = (t u : Text) → collide u t ≡ collide t u

-- none of them holds
pub record FalseCollisionVariants : Type 0 where
  pub yes-by-two-names : YesByTwoNames → ⊥
  pub yes-by-names : YesByNames → ⊥
  pub yes-by-short-names : YesByShortNames → ⊥
  pub yes-by-good-names : YesByGoodNames → ⊥
  pub yes-of-any-specs : YesOfAnySpecs → ⊥
  pub yes-is-not-empty : YesIsNotEmpty → ⊥
  pub no-by-length : NoByLength → ⊥
  pub literals-as-spelt : LiteralsAsSpelt → ⊥
  pub overlap-counts : OverlapCounts → ⊥
  pub starts-are-enough : StartsAreEnough → ⊥
  pub no-in-reverse-listing : NoInReverseListing → ⊥
  pub either-order-though-refused : EitherOrderThoughRefused → ⊥
