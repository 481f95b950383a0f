-- What an accepted spec is, by the questions that it passed. Assumes nothing.
use mathlib.Core.Path.{◌≡◌, refl, sym, ap}
use mathlib.Core.Bool.{Bool, true, false, not, false≢true}
use mathlib.Core.List.{[], ◌∷◌}
use mathlib.Core.Option.{Option, none, some}
use Prim.Native.Nat.{ℕ, zero, suc, ◌≤◌, ◌<◌}
use native.Mathlib.Omega.{arith}
use borrow.Author.Tests.{leb-true, eqb-false, not-true}
use lib.Dec.{leb, lit<}
use lib.ListN.{length}
use Rattle.meaning.specs.Bytes.{Text, ◌and◌, ◌or◌, agree, empty, given, present, absent, if_given}
use Rattle.meaning.specs.Limits.{spec_bytes}
use Rattle.meaning.specs.Names.{side_passes}
use Rattle.meaning.specs.Spec.{accepted, ◌else◌then◌, Mode, Normal, Force, Negative, Spec, is_negative, push, mode_of, unsigned, Sides, one, two, sides_of, has_colon, left, right, supplied, source_of, spec_from, spec_of, has_star, at_most_one_star, exempt, not_hash_like, stars_agree, sides_refusal, spec_refusal, unless, read_spec}
use Rattle.meaning.specs.Instruction.{instruction, fetch_instruction, push_exclude}
use Rattle.promises.specs.Accepted.{AcceptedSpec, ReadIsAccepted, ColonHasDestination, GroupIsAccepted, InstructionsOfSides}
use Rattle.promises.proofs.Members.{group-texts}
use Rattle.promises.proofs.ReadSources.{no-empty-source, left-source}

-- a question that did not refuse was answered yes, and the later ones did not refuse
pub asked : (b : Bool) (n rest : ℕ) → 0 < n → (b else n then rest) ≡ 0 → (b ≡ true) × (rest ≡ 0)
asked true n rest h e = (refl, e)
asked false n rest h e = absurd (omega arith)

-- what the questions 3 to 11 said of an accepted spec
pub record Passed (op : ℕ) (with_colon : Bool) (s : Spec) : Type 0 where
  pub three : not (is_negative s.mode and with_colon) ≡ true
  pub four : not (push op and with_colon and present s.source and absent s.destination) ≡ true
  pub five : if_given at_most_one_star s.source ≡ true
  pub six : (exempt op s or if_given side_passes s.source) ≡ true
  pub seven : if_given at_most_one_star s.destination ≡ true
  pub eight : if_given side_passes s.destination ≡ true
  pub nine : stars_agree op s ≡ true
  pub ten : (not (is_negative s.mode) or present s.source) ≡ true
  pub eleven : (not (is_negative s.mode) or if_given not_hash_like s.source) ≡ true

-- the questions refuse nothing: each was passed
pub passed : (op : ℕ) (c : Bool) (s : Spec) → sides_refusal op c s ≡ 0 → Passed op c s
unfolding sides_refusal
passed op c s e =
    let a3 = asked _ 3 _ (lit< tt) e in
    let a4 = asked _ 4 _ (lit< tt) a3.1 in
    let a5 = asked _ 5 _ (lit< tt) a4.1 in
    let a6 = asked _ 6 _ (lit< tt) a5.1 in
    let a7 = asked _ 7 _ (lit< tt) a6.1 in
    let a8 = asked _ 8 _ (lit< tt) a7.1 in
    let a9 = asked _ 9 _ (lit< tt) a8.1 in
    let a10 = asked _ 10 _ (lit< tt) a9.1 in
    let a11 = asked _ 11 _ (lit< tt) a10.1 in
    record { three = a3.0; four = a4.0; five = a5.0; six = a6.0; seven = a7.0; eight = a8.0; nine = a9.0; ten = a10.0; eleven = a11.0 }

-- each was passed: the questions refuse nothing
pub pass : (op : ℕ) (c : Bool) (s : Spec) → Passed op c s → sides_refusal op c s ≡ 0
unfolding sides_refusal
pass op c s p = rw (p.three, p.four, p.five, p.six, p.seven, p.eight, p.nine, p.ten, p.eleven)

-- a value unless refused, accepted: no question refused
unless-accepted : {A : Type 0} (n : ℕ) (a : A) {b : A} → unless n a ≡ accepted b → (n ≡ 0) × (a ≡ b)
unless-accepted zero a e = (refl, cc)
unless-accepted (suc n) a e = absurd (let z : ◌≡◌ {A = ℕ} 0 1 = cc in omega arith)

-- what reading a spec says where it accepts
pub record ReadPassed (op : ℕ) (t : Text) (s : Spec) : Type 0 where
  pub operation : op ≤ 1
  pub size : length t ≤ spec_bytes
  pub spec_is_lem : spec_of op t ≡ s
  pub sides : Passed op (has_colon (sides_of (unsigned t))) (spec_of op t)

-- an accepted spec passed its questions
pub read-passed : (op : ℕ) (t : Text) (s : Spec) → read_spec op t ≡ accepted s → ReadPassed op t s
unfolding read_spec spec_refusal
read-passed op t s e =
    let u = unless-accepted (spec_refusal op t) (spec_of op t) e in
    let a18 = asked (leb op 1) 18 _ (lit< tt) u.0 in
    let a1 = asked (leb (length t) spec_bytes) 1 _ (lit< tt) a18.1 in
    let a2 = asked (not (push op and empty t)) 2 _ (lit< tt) a1.1 in
    record { operation = leb-true op 1 a18.0; size = leb-true (length t) spec_bytes a1.0; spec_is_lem = u.1; sides = passed op _ (spec_of op t) a2.1 }

-- the sides that a text gives

-- an operation that is no push is fetch
pub fetch-is : (op : ℕ) → op ≤ 1 → push op ≡ false → op ≡ 0
fetch-is op h e = let n : op ≡ 1 → ⊥ = eqb-false op 1 e in omega arith

-- a fetch has a source, if a negative has one
fetch-has : (op : ℕ) (m : Mode) (l : Text) → op ≡ 0 → (not (is_negative m) or present (source_of op m l)) ≡ true → present (source_of op m l) ≡ true
unfolding supplied
fetch-has op m (x ∷ l) h e = refl
fetch-has op Normal [] h e = rw h
fetch-has op Force [] h e = rw h
fetch-has op Negative [] h e = e

-- a destination is not empty
given-not-empty : (t : Text) → given t ≡ some [] → ⊥
given-not-empty [] e = let z : ◌≡◌ {A = ℕ} 0 1 = cc in omega arith
given-not-empty (x ∷ t) e = let z : ◌≡◌ {A = ℕ} 0 1 = cc in omega arith

-- without a colon there is no destination
no-colon : (d : Sides) → not (has_colon d) ≡ true → given (right d) ≡ none
no-colon (one u) e = refl
no-colon (two a u) e = absurd (false≢true e)

-- stars that agree
agree_same : (a b : Bool) → agree a b ≡ true → a ≡ b
agree_same true b e = sym e
agree_same false b e = sym (not-true b e)

module _ (op : ℕ) (s : Spec) (stars : stars_agree op s ≡ true) where
  -- both sides have a star or neither where there is a destination and the spec is not negative
  stars-both : is_negative s.mode ≡ false → present s.destination ≡ true → has_star s.source ≡ has_star s.destination
  unfolding stars_agree
  stars-both n d = go (push op) (rw (n, d) at stars)
    where
      go : (b : Bool) → ((b and false) or agree (has_star s.source) (has_star s.destination)) ≡ true → has_star s.source ≡ has_star s.destination
      go true e = agree_same _ _ e
      go false e = agree_same _ _ e

  -- a star with no destination is a negative's or a push's
  star-alone : s.destination ≡ none → has_star s.source ≡ true → (is_negative s.mode or push op) ≡ true
  unfolding stars_agree
  star-alone d h = go (is_negative s.mode) (push op) (rw (d, h) at stars)
    where
      go : (a b : Bool) → (a or (b and true) or agree true false) ≡ true → (a or b) ≡ true
      go true b e = refl
      go false true e = refl
      go false false e = e

-- a spec with a destination is not negative
pub positive_of : (m : Mode) (dst : Option Text) → (is_negative m ≡ true → dst ≡ none) → present dst ≡ true → is_negative m ≡ false
positive_of m none f d = absurd (false≢true d)
positive_of m (some x) f d = go (is_negative m) f
  where
    go : (b : Bool) → (b ≡ true → some x ≡ none) → b ≡ false
    go true g = absurd (let q = g refl in let z : ◌≡◌ {A = ℕ} 0 1 = cc in omega arith)
    go false g = refl

-- what a text that passed its questions means is accepted so
accepted-of : (op : ℕ) (t : Text) → op ≤ 1 → Passed op (has_colon (sides_of (unsigned t))) (spec_of op t) → AcceptedSpec op (spec_of op t)
unfolding spec_of spec_from
accepted-of op t h p =
    record {
      operation = h;
      fetch-source = λ e. fetch-has op (mode_of t) (left (sides_of (unsigned t))) (fetch-is op h e) p.ten;
      negative-source = λ n. rw n at p.ten;
      negative-alone = alone;
      source-filled = λ e. no-empty-source (left-source op (mode_of t) (left (sides_of (unsigned t))) [] e);
      destination-filled = given-not-empty (right (sides_of (unsigned t)));
      source-star = p.five;
      destination-star = p.seven;
      both-stars = λ d. stars-both op (spec_from op (mode_of t) (sides_of (unsigned t))) p.nine (positive_of (mode_of t) _ alone d) d;
      lone-star = star-alone op (spec_from op (mode_of t) (sides_of (unsigned t))) p.nine;
      source-passes = p.six;
      destination-passes = p.eight;
    }
  where
    alone : is_negative (mode_of t) ≡ true → given (right (sides_of (unsigned t))) ≡ none
    alone n = no-colon (sides_of (unsigned t)) (rw n at p.three)

-- every spec that is read is accepted so
pub read-is-accepted : ReadIsAccepted
read-is-accepted op t s e =
    let r = read-passed op t s e in
    rw r.spec_is_lem at (accepted-of op t r.operation r.sides)

-- a push with a colon and a source has a destination
pub colon-has-destination : ColonHasDestination
colon-has-destination op t s e p c h =
    let r = read-passed op t s e in
    let f : not (push op and has_colon (sides_of (unsigned t)) and present s.source and absent s.destination) ≡ true = rw r.spec_is_lem at r.sides.four in
    go s.destination (rw (p, c, h) at f)
  where
    go : (o : Option Text) → not (absent o) ≡ true → present o ≡ true
    go none q = q
    go (some d) q = refl

-- every spec of a list that is read is accepted so
pub group-is-accepted : GroupIsAccepted
group-is-accepted op specs group e s m = let t = group-texts op specs group e s m in read-is-accepted op t.0 s t.1

-- a side that is there
pub present-is : (o : Option Text) → present o ≡ true → (t : Text) × (o ≡ some t)
present-is none e = absurd (false≢true e)
present-is (some t) e = (t, refl)

-- a fetch with a source
fetch-of : (op : ℕ) (s : Spec) (src : Text) → push op ≡ false → s.source ≡ some src → instruction op s ≡ fetch_instruction s.mode src s.destination
unfolding instruction
fetch-of op s src p e = rw (p, e)

-- a negative push with a source
exclude-of : (op : ℕ) (s : Spec) (src : Text) → push op ≡ true → s.mode ≡ Negative → s.source ≡ some src → instruction op s ≡ push_exclude src
unfolding instruction
exclude-of op s src p m e = rw (p, m, e)

-- an instruction is made of the sides of its spec
pub instructions-of-sides : InstructionsOfSides
instructions-of-sides op t s e =
    let a = read-is-accepted op t s e in
    record {
      fetch-side = λ p. let q = present-is s.source (a.fetch-source p) in (q.0, q.1, fetch-of op s q.0 p q.1);
      exclude-side = λ p m. let n : is_negative s.mode ≡ true = ap is_negative m in let q = present-is s.source (a.negative-source n) in (q.0, q.1, exclude-of op s q.0 p m q.1);
    }
