-- The report on two specs is right: document 02, W1. Assumes nothing.
use mathlib.Core.Path.{◌≡◌, refl, sym, ap, ◌∙◌}
use mathlib.Core.Logic.{◌↔◌, ◌⊎◌, inl, inr}
use mathlib.Core.Bool.{Bool, true, false, cond, false≢true}
use mathlib.Core.List.{◌++◌}
use mathlib.Core.Option.{Option, none, some, map}
use Prim.Native.Nat.{ℕ}
use native.Mathlib.Omega.{arith}
use Rattle.meaning.specs.Bytes.{Text, ◌or◌, same, present, absent}
use Rattle.meaning.specs.Spec.{Answer, accepted, Spec, is_negative, read_spec}
use Rattle.meaning.specs.Match.{Form, literal, pattern, form_of, capture, completed}
use Rattle.meaning.specs.Collide.{as_written, target, literal_in, shared, shared_by, collision, collide}
use Rattle.promises.specs.Terms.{TwoSpecs}
use Rattle.promises.specs.Collisions.{WrittenTo, Reported, yes_with, never, CollidesExactly, YesExactly, NoExactly, PatternsCollide, LiteralsCollide, LiteralAndPatternCollide, NothingCollides, QuestionsInOrder, EitherOrder, NoInAnyListing, WrittenInBytes, YesInBytes, Collisions}
use Rattle.promises.proofs.Laws.{same-eq}
use Rattle.promises.proofs.Captures.{capture-fill}
use Rattle.promises.proofs.Accepted.{positive_of, read-is-accepted}
use Rattle.promises.proofs.Octets.{octets, spec-octets}
use Rattle.promises.proofs.Sharing.{shared-yes, shared-no, patterns-shared, shared-either}
use Rattle.promises.proofs.Writing.{Says, target-says}
use Rattle.promises.proofs.InBytes.{shared-octets, in_bytes}
use Rattle.promises.proofs.Listed.{row_written, written-is-listed}

-- the report on two accepted specs
report-is : (t u : Text) (s r : Spec) → TwoSpecs 0 t u s r → collide t u ≡ accepted (collision s r)
unfolding collide
report-is t u s r h = rw (h.first, h.second)

-- a collision is reported
reported : {o n : Option Text} → o ≡ n → accepted o ≡ accepted n
reported e = ap (λ (o : Option Text). accepted o) e

-- what two targets say together
targets-say : (s r : Spec) (o n : Option Form) → ((d : Text) → Says s d o) → ((d : Text) → Says r d n) → (c : Option Text) → shared_by o n ≡ c → ((d : Text) × (c ≡ some d) × WrittenTo s d × WrittenTo r d) ⊎ ((c ≡ none) × ((d : Text) → WrittenTo s d → WrittenTo r d → ⊥))
targets-say s r none n p q (some d) e = absurd (let z : ◌≡◌ {A = ℕ} 0 1 = cc in omega arith)
targets-say s r none n p q none e = inr (refl, λ d w v. p d w)
targets-say s r (some f) none p q (some d) e = absurd (let z : ◌≡◌ {A = ℕ} 0 1 = cc in omega arith)
targets-say s r (some f) none p q none e = inr (refl, λ d w v. q d v)
targets-say s r (some f) (some g) p q (some d) e = let y = shared-yes f g d e in inl (d, refl, (p d).1 y.0, (q d).1 y.1)
targets-say s r (some f) (some g) p q none e = inr (refl, λ d w v. shared-no f g d e ((p d).0 w) ((q d).0 v))

-- a yes comes with a destination that both are written to, a no means that there is none
pub collides-exactly : CollidesExactly
unfolding collision
collides-exactly t u s r h = go (targets-say s r (target s) (target r) (λ d. target-says s d (read-is-accepted 0 t s h.first)) (λ d. target-says r d (read-is-accepted 0 u r h.second)) (collision s r) refl)
  where
    go : ((d : Text) × (collision s r ≡ some d) × WrittenTo s d × WrittenTo r d) ⊎ ((collision s r ≡ none) × ((d : Text) → WrittenTo s d → WrittenTo r d → ⊥)) → Reported t u s r
    go (inl y) = yes_with y.0 (report-is t u s r h ∙ reported y.1) y.2 y.3
    go (inr y) = never (report-is t u s r h ∙ reported y.0) y.1

-- a report is not both
not-both : {a : Answer (Option Text)} {d : Text} → a ≡ accepted (some d) → a ≡ accepted none → ⊥
not-both p q = let z : ◌≡◌ {A = ℕ} 0 1 = cc in omega arith

pub yes-exactly : YesExactly
yes-exactly t u s r h = go (collides-exactly t u s r h)
  where
    go : Reported t u s r → ((d : Text) × (collide t u ≡ accepted (some d))) ↔ ((d : Text) × WrittenTo s d × WrittenTo r d)
    go (yes_with d e w v) = ((λ y. (d, w, v)), (λ y. (d, e)))
    go (never e f) = ((λ y. absurd (not-both y.1 e)), (λ y. absurd (f y.0 y.1 y.2)))

pub no-exactly : NoExactly
no-exactly t u s r h = go (collides-exactly t u s r h)
  where
    go : Reported t u s r → (collide t u ≡ accepted none) ↔ ((d : Text) → WrittenTo s d → WrittenTo r d → ⊥)
    go (yes_with d e w v) = ((λ y. absurd (not-both e y)), (λ y. absurd (y d w v)))
    go (never e f) = ((λ y. f), (λ y. e))

-- by the destinations

-- the destination of an accepted spec is its target
target_is : (t : Text) (s : Spec) (d : Text) → read_spec 0 t ≡ accepted s → s.destination ≡ some d → target s ≡ some (as_written (form_of d))
unfolding target
target_is t s d e h =
    let n : is_negative s.mode ≡ false = positive_of s.mode s.destination (read-is-accepted 0 t s e).negative-alone (ap present h) in
    rw (n, h)

-- so the report is what the destinations share
report-shared : (t u : Text) (s r : Spec) (d e : Text) (f g : Form) → TwoSpecs 0 t u s r → s.destination ≡ some d → form_of d ≡ f → r.destination ≡ some e → form_of e ≡ g → collide t u ≡ accepted (shared (as_written f) (as_written g))
unfolding collision
report-shared t u s r d e f g h p x q y = report-is t u s r h ∙ rw (target_is t s d h.first p, target_is u r e h.second q, x, y)

pub patterns-collide : PatternsCollide
patterns-collide t u s r d e a b a' b' h p x q y = report-shared t u s r d e (pattern a b) (pattern a' b') h p x q y ∙ reported (patterns-shared a b a' b')

-- a report with the literal
some_is : {o : Option Text} {t : Text} → accepted o ≡ accepted (some t) → o ≡ some t
some_is e = cc

pub literals-collide : LiteralsCollide
literals-collide t u s r d e h p x q y =
    let k = report-shared t u s r d e (literal d) (literal e) h p x q y in
    ((λ z. yes-same (some_is (sym k ∙ z))), (λ z. k ∙ rw (same-eq z)))
  where
    yes-same : cond (same (completed d) (completed e)) (some (completed d)) none ≡ some (completed d) → completed d ≡ completed e
    yes-same w = (shared-yes (literal (completed d)) (literal (completed e)) (completed d) w).1

pub either_order : EitherOrder
unfolding collision
either_order t u s r h = report-is u t r s (record { first = h.second; second = h.first }) ∙ reported (go (target s) (target r)) ∙ sym (report-is t u s r h)
  where
    go : (o n : Option Form) → shared_by n o ≡ shared_by o n
    go none none = refl
    go none (some g) = refl
    go (some f) none = refl
    go (some f) (some g) = shared-either g f

pub literal-and-pattern-collide : LiteralAndPatternCollide
unfolding literal_in
literal-and-pattern-collide t u s r d e a b h p x q y =
    let k = report-shared t u s r d e (literal d) (pattern a b) h p x q y in
    (((λ z. (shared-yes (literal (completed d)) (pattern a b) (completed d) (some_is (sym k ∙ z))).1), (λ z. k ∙ fill z.0 z.1)), either_order t u s r h)
  where
    fill : (c : Text) → completed d ≡ a ++ (c ++ b) → accepted (literal_in a b (completed d)) ≡ accepted (some (completed d))
    fill c z = let v : capture a b (completed d) ≡ some c = rw z (capture-fill a b c) in rw v

-- a spec that is negative or has no destination has no target
no_target : (s : Spec) → (is_negative s.mode or absent s.destination) ≡ true → target s ≡ none
unfolding target
no_target s e = go (is_negative s.mode) s.destination e
  where
    go : (b : Bool) (o : Option Text) → (b or absent o) ≡ true → cond b none (map (λ x. as_written (form_of x)) o) ≡ none
    go true o p = refl
    go false none p = refl
    go false (some d) p = absurd (false≢true p)

pub nothing-collides : NothingCollides
unfolding collision
nothing-collides t u s r h e = report-is t u s r h ∙ reported (go (is_negative s.mode) (absent s.destination) (no_target s) (no_target r) e)
  where
    left-none : target s ≡ none → shared_by (target s) (target r) ≡ none
    left-none p = rw p

    right-none : (o : Option Form) → target r ≡ none → shared_by o (target r) ≡ none
    right-none none p = refl
    right-none (some f) p = rw p

    go : (b c : Bool) → ((b or c) ≡ true → target s ≡ none) → ((is_negative r.mode or absent r.destination) ≡ true → target r ≡ none) → (b or (c or (is_negative r.mode or absent r.destination))) ≡ true → shared_by (target s) (target r) ≡ none
    go true c f g p = left-none (f refl)
    go false true f g p = left-none (f refl)
    go false false f g p = right-none (target s) (g p)

-- the first's questions first
pub questions-in-order : QuestionsInOrder
unfolding collide
questions-in-order = record { first-refused = λ t u n k e. rw e; second-refused = λ t u s n k e f. rw (e, f) }

-- what two targets share in bytes
bytes-shared : (t u : Text) (s r : Spec) (d : Text) → TwoSpecs 0 t u s r → octets t ≡ true → octets u ≡ true → (o n : Option Form) → target s ≡ o → target r ≡ n → shared_by o n ≡ some d → (octets d ≡ true) × WrittenInBytes s d × WrittenInBytes r d
bytes-shared t u s r d h p q none n x y e = absurd (let z : ◌≡◌ {A = ℕ} 0 1 = cc in omega arith)
bytes-shared t u s r d h p q (some f) none x y e = absurd (let z : ◌≡◌ {A = ℕ} 0 1 = cc in omega arith)
bytes-shared t u s r d h p q (some f) (some g) x y e =
    let a = spec-octets 0 t s h.first p in
    let b = spec-octets 0 u r h.second q in
    let i = in_bytes s f (read-is-accepted 0 t s h.first) a.0 a.1 x in
    let j = in_bytes r g (read-is-accepted 0 u r h.second) b.0 b.1 y in
    let w = shared-yes f g d e in
    let o = shared-octets f g d e i.form-octets j.form-octets in
    (o, i.fills-in-bytes d o w.0, j.fills-in-bytes d o w.1)

pub yes-in-bytes : YesInBytes
unfolding collision
yes-in-bytes t u s r d h p q e = bytes-shared t u s r d h p q (target s) (target r) refl refl (some_is (sym (report-is t u s r h) ∙ e))

-- after a no, no listing has two such rows
pub no-in-any-listing : NoInAnyListing
no-in-any-listing t u s r h e group names q p d i j m n x y = (no-exactly t u s r h).0 e d (row_written group names q s d i m x) (row_written group names p r d j n y)

-- all of W1
pub collisions : Collisions
collisions =
    record {
      collides-exactly = collides-exactly;
      yes-exactly = yes-exactly;
      no-exactly = no-exactly;
      patterns-collide = patterns-collide;
      literals-collide = literals-collide;
      literal-and-pattern-collide = literal-and-pattern-collide;
      nothing-collides = nothing-collides;
      questions-in-order = questions-in-order;
      either_order = either_order;
      written-is-listed = written-is-listed;
      no-in-any-listing = no-in-any-listing;
      yes-in-bytes = yes-in-bytes;
    }
