-- The spec that a canonical text is read as, and that reading accepts it. Assumes nothing.
use mathlib.Core.Path.{◌≡◌, refl, sym, ap, ◌∙◌}
use mathlib.Core.Bool.{Bool, true, false, not, false≢true}
use mathlib.Core.List.{[], ◌∷◌, ◌++◌, append-nil}
use mathlib.Core.Option.{Option, none, some}
use Prim.Native.Nat.{ℕ, ◌≤◌}
use native.Mathlib.Omega.{arith}
use borrow.Author.Tests.{le-leb, eqb-true}
use lib.ListN.{length}
use Rattle.meaning.specs.Bytes.{Text, bytes, colon, caret, ◌and◌, agree, empty, begins, present, absent}
use Rattle.meaning.specs.Limits.{spec_bytes}
use Rattle.meaning.specs.Names.{side_passes}
use Rattle.meaning.specs.Spec.{accepted, Mode, Normal, Force, Negative, Spec, is_negative, push, mode_of_byte, mode_of, unsigned, two, sides_of, has_colon, supplied, spec_from, spec_of, starred, exempt, stars_agree, spec_refusal, read_spec}
use Rattle.meaning.specs.Instruction.{Instruction, fetch_only, fetch_exclude, fetch_and_update, push_all_matching_branches, push_delete, push_matching, push_exclude, fetch_sides, push_sides, instruction, instruction_text, sign}
use Rattle.promises.specs.Terms.{plus_only}
use Rattle.promises.proofs.Laws.{or_right}
use Rattle.promises.proofs.Splitting.{sides-one, sides-two}
use Rattle.promises.proofs.Accepted.{Passed, pass, read-passed, read-is-accepted, present-is, fetch-is}
use Rattle.promises.proofs.Clean.{Clean, side-clean, given-self, clean-colon, clean-normal}
use Rattle.promises.proofs.ReadSources.{Source, source, clean-source, source-again, no-sign-off, read-source, normal-source}

-- a spec, written short
abbrev pub spec_is : Mode → Option Text → Option Text → Spec
spec_is m src dst = record { mode = m; source = src; destination = dst }

-- the mode of a spec that is not negative
abbrev pub mode_by : Bool → Mode
mode_by true = Force
mode_by false = Normal

-- the spec that the text of an instruction is read as
abbrev pub plain : Instruction → Spec
plain (fetch_only src) = spec_is Normal (some src) none
plain (fetch_exclude src) = spec_is Negative (some src) none
plain (fetch_and_update src dst force) = spec_is (mode_by force) (some src) (some dst)
plain (push_all_matching_branches force) = spec_is (mode_by force) none none
plain (push_delete dst) = spec_is Normal none (some dst)
plain (push_matching src dst force) = spec_is (mode_by force) (some src) (some dst)
plain (push_exclude src) = spec_is Negative (some src) none

-- what the two sides of an instruction have: a source, without sign where nothing forces, and a clean destination
pub record TwoSides (src dst : Text) (force : Bool) : Type 0 where
  pub is-source : Source src
  pub is-clean : Clean dst
  pub no-sign-first : force ≡ false → mode_of src ≡ Normal

-- what an instruction of an accepted spec has
abbrev pub Fine : ℕ → Instruction → Type 0
Fine op (fetch_only src) = (op ≡ 0) × Clean src
Fine op (fetch_exclude src) = (op ≡ 0) × Clean src
Fine op (fetch_and_update src dst force) = (op ≡ 0) × TwoSides src dst force
Fine op (push_all_matching_branches force) = op ≡ 1
Fine op (push_delete dst) = (op ≡ 1) × Clean dst
Fine op (push_matching src dst force) = (op ≡ 1) × TwoSides src dst force
Fine op (push_exclude src) = (op ≡ 1) × Clean src

-- The text of an instruction means that spec

-- two sides, after a sign
sides-mean : (op : ℕ) (src dst : Text) (force : Bool) → TwoSides src dst force → spec_of op (sign force ++ (src ++ (colon ∷ dst))) ≡ spec_is (mode_by force) (some src) (some dst)
unfolding spec_of spec_from mode_of_byte
sides-mean op src dst force h = go force h.no-sign-first
  where
    o : sides_of (src ++ (colon ∷ dst)) ≡ two src dst
    o = sides-two src dst (clean-colon dst h.is-clean)

    go : (force : Bool) → (force ≡ false → mode_of src ≡ Normal) → spec_of op (sign force ++ (src ++ (colon ∷ dst))) ≡ spec_is (mode_by force) (some src) (some dst)
    go true n = rw (o, source-again op Force src h.is-source, given-self dst h.is-clean)
    go false n =
        let q = no-sign-off src (colon ∷ dst) h.is-source (n refl) in
        rw (q.0, q.1, o, source-again op Normal src h.is-source, given-self dst h.is-clean)

-- a negative
exclude-means : (op : ℕ) (src : Text) → Clean src → spec_of op (caret ∷ src) ≡ spec_is Negative (some src) none
unfolding spec_of spec_from mode_of_byte
exclude-means op src h = rw (sides-one src (clean-colon src h), source-again op Negative src (clean-source src h))

-- fetch-only
only-means : (op : ℕ) (src : Text) → Clean src → begins (bytes "+") src ≡ false → spec_of op src ≡ spec_is Normal (some src) none
unfolding spec_of spec_from
only-means op src h b =
    let q = no-sign-off src [] (clean-source src h) (clean-normal src h b) in
    let q0 : mode_of src ≡ Normal = rw (append-nil src) at q.0 in
    let q1 : unsigned src ≡ src = rw (append-nil src) at q.1 in
    rw (q1, sides-one src (clean-colon src h), q0, source-again op Normal src (clean-source src h))

-- delete
delete-means : (dst : Text) → Clean dst → spec_of 1 (colon ∷ dst) ≡ spec_is Normal none (some dst)
unfolding spec_of spec_from mode_of_byte supplied
delete-means dst h = rw (sides-one dst (clean-colon dst h), given-self dst h)

-- all matching branches
branches-mean : (force : Bool) → spec_of 1 (sign force ++ (colon ∷ [])) ≡ spec_is (mode_by force) none none
unfolding spec_of spec_from mode_of_byte supplied
branches-mean true = refl
branches-mean false = refl

-- every instruction of an accepted spec, but for a fetch-only with `+`
pub fine-means : (op : ℕ) (i : Instruction) → Fine op i → plus_only i ≡ false → spec_of op (instruction_text i) ≡ plain i
fine-means op (fetch_only src) h b = only-means op src h.1 b
fine-means op (fetch_exclude src) h b = exclude-means op src h.1
fine-means op (fetch_and_update src dst force) h b = sides-mean op src dst force h.1
fine-means op (push_all_matching_branches force) h b = rw h (branches-mean force)
fine-means op (push_delete dst) h b = rw h.0 (delete-means dst h.1)
fine-means op (push_matching src dst force) h b = sides-mean op src dst force h.1
fine-means op (push_exclude src) h b = exclude-means op src h.1

-- by the mode of a spec that is not negative, its instruction is that of its sides
fetch-by : (force : Bool) (src : Text) (dst : Option Text) → instruction 0 (spec_is (mode_by force) (some src) dst) ≡ fetch_sides force src dst
unfolding instruction
fetch-by true src dst = refl
fetch-by false src dst = refl

push-by : (force : Bool) (src dst : Option Text) → instruction 1 (spec_is (mode_by force) src dst) ≡ push_sides force src dst
unfolding instruction
push-by true src dst = refl
push-by false src dst = refl

-- so that spec has the instruction
pub fine_back : (op : ℕ) (i : Instruction) → Fine op i → instruction op (plain i) ≡ i
unfolding instruction
fine_back op (fetch_only src) h = rw h.0
fine_back op (fetch_exclude src) h = rw h.0
fine_back op (fetch_and_update src dst force) h = rw h.0 (fetch-by force src (some dst))
fine_back op (push_all_matching_branches force) h = rw h (push-by force none none)
fine_back op (push_delete dst) h = rw h.0
fine_back op (push_matching src dst force) h = rw h.0 (push-by force (some src) (some dst))
fine_back op (push_exclude src) h = rw h.0

-- That spec passes its questions

-- the mode of a spec that is not negative
positive : (force : Bool) → is_negative (mode_by force) ≡ false
positive true = refl
positive false = refl

and_none : (b : Bool) → not (b and false) ≡ true
and_none true = refl
and_none false = refl

agree-self : (b : Bool) → agree b b ≡ true
agree-self true = refl
agree-self false = refl

-- the questions ask of a mode whether it is negative, and questions 3 and 4 alone ask for a colon
passed-again : {op : ℕ} {c : Bool} {s : Spec} (c' : Bool) (m : Mode) → Passed op c s → is_negative m ≡ is_negative s.mode → not (is_negative m and c') ≡ true → not (push op and c' and present s.source and absent s.destination) ≡ true → Passed op c' (spec_is m s.source s.destination)
unfolding exempt stars_agree
passed-again c' m p n h k = record { three = h; four = k; five = p.five; six = p.six; seven = p.seven; eight = p.eight; nine = rw n p.nine; ten = rw n p.ten; eleven = rw n p.eleven }

-- with or without a colon a spec passes that is not negative, and is no push with a source alone
passed-positive : {op : ℕ} {c : Bool} {s : Spec} (c' : Bool) (m : Mode) → Passed op c s → is_negative m ≡ false → is_negative s.mode ≡ false → (push op and present s.source and absent s.destination) ≡ false → Passed op c' (spec_is m s.source s.destination)
passed-positive {op} {c} {s} c' m p n q k = passed-again c' m p (n ∙ sym q) (rw n) (go (push op) c' (present s.source and absent s.destination) k)
  where
    go : (a b d : Bool) → (a and d) ≡ false → not (a and b and d) ≡ true
    go false b d e = refl
    go true b d e = rw e (and_none b)

-- a push with one side passes with that side twice
passed-twice : {c : Bool} (c' force : Bool) (src : Text) → Passed 1 c (spec_is (mode_by force) (some src) none) → Passed 1 c' (spec_is (mode_by force) (some src) (some src))
unfolding exempt stars_agree
passed-twice c' force src p =
    let n = positive force in
    record {
      three = rw n;
      four = and_none c';
      five = p.five;
      six = or_right (exempt 1 (spec_is (mode_by force) (some src) (some src))) (side_passes src) p.six;
      seven = p.five;
      eight = p.six;
      nine = rw n (agree-self (starred src));
      ten = rw n;
      eleven = rw n;
    }

-- an instruction is fine, and the spec of its text passes
pub record Readable (op : ℕ) (i : Instruction) : Type 0 where
  pub is-fine : Fine op i
  pub passes : Passed op (has_colon (sides_of (unsigned (instruction_text i)))) (plain i)

-- what the sides of an accepted spec have
record Sided (op : ℕ) (m : Mode) (src dst : Option Text) : Type 0 where
  with_colon : Bool
  is-passed : Passed op with_colon (spec_is m src dst)
  is-sourced : (x : Text) → src ≡ some x → Source x
  unsigned-source : (x : Text) → src ≡ some x → m ≡ Normal → mode_of x ≡ Normal

-- two sides
two-sides : {op : ℕ} {dst : Option Text} (force : Bool) (src d : Text) → Sided op (mode_by force) (some src) dst → Clean d → TwoSides src d force
two-sides force src d h c = record { is-source = h.is-sourced src refl; is-clean = c; no-sign-first = λ e. h.unsigned-source src refl (ap mode_by e) }

-- a fetch that is not negative
fetch-readable : (force : Bool) (src : Text) (dst : Option Text) → Sided 0 (mode_by force) (some src) dst → Readable 0 (fetch_sides force src dst)
unfolding exempt
fetch-readable force src none h = record { is-fine = (refl, side-clean src h.is-passed.six); passes = passed-positive _ Normal h.is-passed refl (positive force) refl }
fetch-readable force src (some d) h =
    record {
      is-fine = (refl, two-sides force src d h (side-clean d h.is-passed.eight));
      passes = passed-positive _ (mode_by force) h.is-passed (positive force) (positive force) refl;
    }

-- a push that is not negative
push-readable : (force : Bool) (src dst : Option Text) → Sided 1 (mode_by force) src dst → Readable 1 (push_sides force src dst)
unfolding exempt
push-readable force none none h = record { is-fine = refl; passes = passed-positive _ (mode_by force) h.is-passed (positive force) (positive force) refl }
push-readable force none (some d) h = record { is-fine = (refl, side-clean d h.is-passed.eight); passes = passed-positive _ Normal h.is-passed refl (positive force) refl }
push-readable force (some src) none h = record { is-fine = (refl, two-sides force src src h (side-clean src h.is-passed.six)); passes = passed-twice _ force src h.is-passed }
push-readable force (some src) (some d) h =
    record {
      is-fine = (refl, two-sides force src d h (side-clean d h.is-passed.eight));
      passes = passed-positive _ (mode_by force) h.is-passed (positive force) (positive force) refl;
    }

-- the text of a negative has no colon
exclude-colon : (src : Text) → Clean src → has_colon (sides_of (unsigned (caret ∷ src))) ≡ false
unfolding mode_of_byte
exclude-colon src h = rw (sides-one src (clean-colon src h))

-- a negative of either operation
exclude-passed : {op : ℕ} {c : Bool} (src : Text) → Clean src → Passed op c (spec_is Negative (some src) none) → Passed op (has_colon (sides_of (unsigned (caret ∷ src)))) (spec_is Negative (some src) none)
exclude-passed {op} src h p = let n = exclude-colon src h in passed-again _ Negative p refl (rw n) (rw n (and_none (push op)))

-- a spec that was read has sides
sided : (op : ℕ) (t : Text) (s : Spec) → read_spec op t ≡ accepted s → Sided op s.mode s.source s.destination
unfolding spec_of spec_from
sided op t s e =
    let r = read-passed op t s e in
    let f = r.spec_is_lem in
    record {
      with_colon = has_colon (sides_of (unsigned t));
      is-passed = rw f at r.sides;
      is-sourced = λ x q. read-source op t x (ap (λ (k : Spec). k.source) f ∙ q);
      unsigned-source = λ x q m. normal-source op t x (ap (λ (k : Spec). k.mode) f ∙ m) (ap (λ (k : Spec). k.source) f ∙ q);
    }

-- by the mode and the sides
fetch-by-mode : (m : Mode) (src : Text) (dst : Option Text) → (is_negative m ≡ true → dst ≡ none) → Sided 0 m (some src) dst → Readable 0 (instruction 0 (spec_is m (some src) dst))
unfolding instruction exempt
fetch-by-mode Normal src dst n h = fetch-readable false src dst h
fetch-by-mode Force src dst n h = fetch-readable true src dst h
fetch-by-mode Negative src none n h = let c = side-clean src h.is-passed.six in record { is-fine = (refl, c); passes = exclude-passed src c h.is-passed }
fetch-by-mode Negative src (some d) n h = absurd (let q = n refl in let z : ◌≡◌ {A = ℕ} 0 1 = cc in omega arith)

push-by-mode : (m : Mode) (src dst : Option Text) → (is_negative m ≡ true → present src ≡ true) → (is_negative m ≡ true → dst ≡ none) → Sided 1 m src dst → Readable 1 (instruction 1 (spec_is m src dst))
unfolding instruction exempt
push-by-mode Normal src dst k n h = push-readable false src dst h
push-by-mode Force src dst k n h = push-readable true src dst h
push-by-mode Negative none dst k n h = absurd (false≢true (k refl))
push-by-mode Negative (some src) none k n h = let c = side-clean src h.is-passed.six in record { is-fine = (refl, c); passes = exclude-passed src c h.is-passed }
push-by-mode Negative (some src) (some d) k n h = absurd (let q = n refl in let z : ◌≡◌ {A = ℕ} 0 1 = cc in omega arith)

-- the instruction of an accepted spec is readable
pub readable : (op : ℕ) (t : Text) (s : Spec) → read_spec op t ≡ accepted s → Readable op (instruction op s)
readable op t s e = go (push op) refl
  where
    go : (b : Bool) → push op ≡ b → Readable op (instruction op s)
    go true q =
        let z : op ≡ 1 = eqb-true op 1 q in
        let a = read-is-accepted op t s e in
        rw z (push-by-mode s.mode s.source s.destination a.negative-source a.negative-alone (rw z at (sided op t s e)))
    go false q =
        let a = read-is-accepted op t s e in
        let z : op ≡ 0 = fetch-is op a.operation q in
        let o = present-is s.source (a.fetch-source q) in
        let f : s ≡ spec_is s.mode (some o.0) s.destination = λ i. record { mode = s.mode; source = o.1 i; destination = s.destination } in
        rw (z, f) (fetch-by-mode s.mode o.0 s.destination a.negative-alone (rw (z, o.1) at (sided op t s e)))

-- Reading it

-- the text of a push has a byte
fine-filled : (op : ℕ) (i : Instruction) → Fine op i → not (push op and empty (instruction_text i)) ≡ true
fine-filled op (fetch_only src) h = rw h.0
fine-filled op (fetch_exclude src) h = rw h.0
fine-filled op (fetch_and_update src dst force) h = rw h.0
fine-filled op (push_all_matching_branches true) h = and_none (push op)
fine-filled op (push_all_matching_branches false) h = and_none (push op)
fine-filled op (push_delete dst) h = and_none (push op)
fine-filled op (push_matching src dst true) h = and_none (push op)
fine-filled op (push_matching src dst false) h = go h.1.is-source
  where
    go : {u : Text} → Source u → not (push op and empty (u ++ (colon ∷ dst))) ≡ true
    go (source x u c) = and_none (push op)
fine-filled op (push_exclude src) h = and_none (push op)

-- a text whose parts mean a spec that passes is read as it
text-reads : (op : ℕ) (t : Text) (s : Spec) → op ≤ 1 → length t ≤ spec_bytes → not (push op and empty t) ≡ true → spec_of op t ≡ s → Passed op (has_colon (sides_of (unsigned t))) s → read_spec op t ≡ accepted s
unfolding read_spec spec_refusal
text-reads op t s o h f e p = rw (le-leb op 1 o, le-leb (length t) spec_bytes h, f, e, pass op _ s p)

-- a canonical text that fits is read as the spec that it means, but for that of a fetch-only with `+`
pub text-back : (op : ℕ) (t : Text) (s : Spec) → read_spec op t ≡ accepted s → length (instruction_text (instruction op s)) ≤ spec_bytes → plus_only (instruction op s) ≡ false → read_spec op (instruction_text (instruction op s)) ≡ accepted (plain (instruction op s))
text-back op t s e n b =
    let i = instruction op s in
    let h = readable op t s e in
    text-reads op (instruction_text i) (plain i) (read-is-accepted op t s e).operation n (fine-filled op i h.is-fine) (fine-means op i h.is-fine b) h.passes
