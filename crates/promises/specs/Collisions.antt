-- What the report on two specs promises: document 02, W1. Each statement stands below the sentence that it is for. The proofs are in
-- proofs/Collisions, what would be false in CollisionVariants, and what calls tell in CollisionCalls.
use Rattle.std.specs.Prelude.{ℕ, ◌≡◌, ◌↔◌, Bool, true, cond, List, [], ◌∷◌, ◌++◌, leb, length}
use Rattle.std.proofs.Math.Option.{Option, none, some}
use Rattle.meaning.specs.Bytes.{Text, ◌and◌, ◌or◌, begins, ends, absent, every, In}
use Rattle.meaning.specs.Spec.{accepted, refused, Spec, is_negative, read_spec}
use Rattle.meaning.specs.Rows.{Row}
use Rattle.meaning.specs.Match.{literal, pattern, form_of, completed, mapped, forward}
use Rattle.meaning.specs.Listing.{object_rows, forward_rows}
use Rattle.meaning.specs.View.{nth}
use Rattle.meaning.specs.Collide.{collide}
use Rattle.promises.specs.Terms.{TwoSpecs}
use Rattle.promises.specs.Facts.{is_byte}

-- "The names may be any bytes of any length, beyond question 15 too; the name rules aren't asked of them. [..] An object source counts
-- as well as a name."
-- What is written to d under a spec: a name, of any bytes and any length, or the row of an object source.
pub data WrittenTo (s : Spec) (d : Text) : Type 0 where
  by_name : (name : Text) → forward s name ≡ mapped (some d) → WrittenTo s d
  by_object : (r : Row) → In r (object_rows (0, s)) → r.destination ≡ some d → WrittenTo s d

-- "[..] can some name under the first and some name under the second be written to one destination? [..] A yes comes with a colliding
-- destination [..]. A no means that none exists."
-- The report answers one of the two: a yes, and its destination is written to under both; or a no, and none is.
pub data Reported (t u : Text) (s r : Spec) : Type 0 where
  yes_with : (d : Text) → collide t u ≡ accepted (some d) → WrittenTo s d → WrittenTo r d → Reported t u s r
  never : collide t u ≡ accepted none → ((d : Text) → WrittenTo s d → WrittenTo r d → ⊥) → Reported t u s r

abbrev pub CollidesExactly : Type 0
CollidesExactly = (t u : Text) (s r : Spec) → TwoSpecs 0 t u s r → Reported t u s r

-- the same as two equivalences
abbrev pub YesExactly : Type 0
YesExactly = (t u : Text) (s r : Spec) → TwoSpecs 0 t u s r → ((d : Text) × (collide t u ≡ accepted (some d))) ↔ ((d : Text) × WrittenTo s d × WrittenTo r d)

abbrev pub NoExactly : Type 0
NoExactly = (t u : Text) (s r : Spec) → TwoSpecs 0 t u s r → (collide t u ≡ accepted none) ↔ ((d : Text) → WrittenTo s d → WrittenTo r d → ⊥)

-- the longer of two texts
abbrev pub longer : Text → Text → Text
longer a b = cond (leb (length a) (length b)) b a

-- one start begins the other, and one end closes the other
abbrev pub starts_and_ends : Text → Text → Text → Text → Bool
starts_and_ends a b a' b' = (begins a a' or begins a' a) and (ends b b' or ends b' b)

-- "Two patterns collide exactly if one start begins the other and one end closes the other. [..] A yes comes with [..] the longer start
-- followed by the longer end [..]."
abbrev pub PatternsCollide : Type 0
PatternsCollide =
    (t u : Text) (s r : Spec) (d e a b a' b' : Text)
    → TwoSpecs 0 t u s r
    → s.destination ≡ some d
    → form_of d ≡ pattern a b
    → r.destination ≡ some e
    → form_of e ≡ pattern a' b'
    → collide t u ≡ accepted (cond (starts_and_ends a b a' b') (some (longer a a' ++ longer b b')) none)

-- "Literal destinations count in their completed form. [..] or the literal."
-- Two literals collide exactly if their completed forms are one.
abbrev pub LiteralsCollide : Type 0
LiteralsCollide =
    (t u : Text) (s r : Spec) (d e : Text)
    → TwoSpecs 0 t u s r
    → s.destination ≡ some d
    → form_of d ≡ literal d
    → r.destination ≡ some e
    → form_of e ≡ literal e
    → (collide t u ≡ accepted (some (completed d))) ↔ (completed d ≡ completed e)

-- A literal and a pattern, in either order, collide exactly if the completed form has the pattern's start and end, which do not overlap.
abbrev pub LiteralAndPatternCollide : Type 0
LiteralAndPatternCollide =
    (t u : Text) (s r : Spec) (d e a b : Text)
    → TwoSpecs 0 t u s r
    → s.destination ≡ some d
    → form_of d ≡ literal d
    → r.destination ≡ some e
    → form_of e ≡ pattern a b
    → ((collide t u ≡ accepted (some (completed d))) ↔ ((c : Text) × (completed d ≡ a ++ (c ++ b)))) × (collide u t ≡ collide t u)

-- "A spec that is negative or has no destination collides with nothing."
abbrev pub NothingCollides : Type 0
NothingCollides =
    (t u : Text) (s r : Spec)
    → TwoSpecs 0 t u s r
    → (is_negative s.mode or absent s.destination or is_negative r.mode or absent r.destination) ≡ true
    → collide t u ≡ accepted none

-- "The first spec's questions come before the second's [..]."
-- A refusal is that of the first spec, 1, whatever the second is; or that of the second, 2, where the first is accepted.
pub record QuestionsInOrder : Type 0 where
  pub first-refused : (t u : Text) (n : ℕ) (k : Option ℕ) → read_spec 0 t ≡ refused n k → collide t u ≡ refused n (some 1)
  pub second-refused : (t u : Text) (s : Spec) (n : ℕ) (k : Option ℕ) → read_spec 0 t ≡ accepted s → read_spec 0 u ≡ refused n k → collide t u ≡ refused n (some 2)

-- The answer on two accepted specs does not depend on their order.
abbrev pub EitherOrder : Type 0
EitherOrder = (t u : Text) (s r : Spec) → TwoSpecs 0 t u s r → collide u t ≡ collide t u

-- What is written under a spec is what its forward listing can have as a destination, for some items.
abbrev pub WrittenIsListed : Type 0
WrittenIsListed =
    (t : Text) (s : Spec) (d : Text)
    → read_spec 0 t ≡ accepted s
    → WrittenTo s d ↔ ((names : List Text) × (r : Row) × In r (forward_rows (s ∷ []) names) × (r.destination ≡ some d))

-- "Carriers send specs before any branch exists, and validation sees only today's items."
-- After a no, whatever the group that holds both specs and whatever the items, no row of the one and row of the other in a listing have
-- one destination. Of forward listings this is so. In reverse a literal is not completed, so there it would be false: NoInReverseListing.
abbrev pub NoneIn : (List Spec → List Text → List Row) → Type 0
NoneIn listing =
    (t u : Text) (s r : Spec)
    → TwoSpecs 0 t u s r
    → collide t u ≡ accepted none
    → (group : List Spec) (names : List Text) (q p : Row) (d : Text)
    → In q (listing group names)
    → In p (listing group names)
    → nth group q.spec ≡ some s
    → nth group p.spec ≡ some r
    → q.destination ≡ some d
    → p.destination ≡ some d
    → ⊥

abbrev pub NoInAnyListing : Type 0
NoInAnyListing = NoneIn forward_rows

-- "The names may be any bytes of any length [..]."
-- Where the texts of the specs are byte strings, so are the destination of a yes and the names that are written to it. A no speaks of
-- all texts, so of byte strings.
pub data WrittenInBytes (s : Spec) (d : Text) : Type 0 where
  by_name_in_bytes : (name : Text) → every is_byte name ≡ true → forward s name ≡ mapped (some d) → WrittenInBytes s d
  by_object_too : (r : Row) → In r (object_rows (0, s)) → r.destination ≡ some d → WrittenInBytes s d

abbrev pub YesInBytes : Type 0
YesInBytes =
    (t u : Text) (s r : Spec) (d : Text)
    → TwoSpecs 0 t u s r
    → every is_byte t ≡ true
    → every is_byte u ≡ true
    → collide t u ≡ accepted (some d)
    → (every is_byte d ≡ true) × WrittenInBytes s d × WrittenInBytes r d

-- all of it
pub record Collisions : Type 0 where
  pub collides-exactly : CollidesExactly
  pub yes-exactly : YesExactly
  pub no-exactly : NoExactly
  pub patterns-collide : PatternsCollide
  pub literals-collide : LiteralsCollide
  pub literal-and-pattern-collide : LiteralAndPatternCollide
  pub nothing-collides : NothingCollides
  pub questions-in-order : QuestionsInOrder
  pub either_order : EitherOrder
  pub written-is-listed : WrittenIsListed
  pub no-in-any-listing : NoInAnyListing
  pub yes-in-bytes : YesInBytes
