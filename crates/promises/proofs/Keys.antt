-- Canonical texts are keys: document 02, W13. A text tells its instruction, so equal texts have equal instructions. Assumes nothing.
use mathlib.Core.Path.{◌≡◌, refl, sym, ap, ◌∙◌}
use mathlib.Core.Logic.{◌⊎◌, inl, inr}
use mathlib.Core.Bool.{Bool, true, false, not, cond, false≢true}
use mathlib.Core.List.{List, [], ◌∷◌, ◌++◌, map}
use mathlib.Core.Option.{Option, none, some}
use Prim.Native.Nat.{ℕ}
use native.Mathlib.Omega.{arith}
use borrow.Author.Tests.{le-leb, lt-leb, eqb-true}
use lib.Dec.{eqb}
use lib.ListN.{length}
use Rattle.meaning.specs.Bytes.{Text, bytes, plus, colon, ◌and◌, begins, has_byte, or_empty, In, here, there}
use Rattle.meaning.specs.Limits.{spec_bytes}
use Rattle.meaning.specs.Spec.{accepted, Mode, Normal, Force, Negative, Spec, push, mode_of_byte, sides_of, left, source_of, spec_from, spec_of, spec_refusal, read_spec}
use Rattle.meaning.specs.Instruction.{Instruction, fetch_only, fetch_exclude, fetch_and_update, push_all_matching_branches, push_delete, push_matching, push_exclude, fetch_instruction, push_sides, push_instruction, instruction, instruction_text, canonical_text}
use Rattle.meaning.specs.Entries.{instructed, to_bstring}
use Rattle.promises.specs.Terms.{TwoSpecs, canonical_texts, plus_only}
use Rattle.promises.specs.Keys.{EveryAcceptedHasKey, KeysExactly, KeysReadBack, LongKeysRefused, PlusNeverReadsBack, SameKeysSameMeaning, Keys}
use Rattle.promises.proofs.Laws.{and_left, or_right}
use Rattle.promises.proofs.Splitting.{sides-length}
use Rattle.promises.proofs.ReadSources.{Source, source_is}
use Rattle.promises.proofs.Accepted.{read-passed, read-is-accepted}
use Rattle.promises.proofs.Refusals.{and-accepted}
use Rattle.promises.proofs.Clean.{clean-colon}
use Rattle.promises.proofs.Members.{group-texts}
use Rattle.promises.proofs.Calm.{calm}
use Rattle.promises.proofs.Canonical.{calm-plain, same-meaning}
use Rattle.promises.proofs.KeyLengths.{keys-within}
use Rattle.promises.proofs.Plain.{plain, Fine, fine-means, fine_back, readable, text-back}

-- every accepted spec has its instruction and its key
pub every-accepted-has-key : EveryAcceptedHasKey
unfolding instructed to_bstring
every-accepted-has-key op t s e = (rw e, rw e)

-- A text tells its instruction

-- a fetch text with `+` and no colon is fetch-only itself; any other has the instruction of what it means
abbrev told_by : ℕ → Text → Instruction
told_by op key = cond (eqb op 0 and not (has_byte colon key) and begins (bytes "+") key) (fetch_only key) (instruction op (spec_of op key))

-- a text with a colon has it
has-colon : (s t : Text) → has_byte colon (s ++ (colon ∷ t)) ≡ true
has-colon [] t = refl
has-colon (x ∷ s) t = or_right (eqb colon x) _ (has-colon s t)

-- which texts are those of fetch-only with `+`
plus-test : (op : ℕ) (i : Instruction) → Fine op i → (eqb op 0 and not (has_byte colon (instruction_text i)) and begins (bytes "+") (instruction_text i)) ≡ plus_only i
plus-test op (fetch_only src) h = rw (h.0, clean-colon src h.1)
plus-test op (fetch_exclude src) h = rw (h.0, clean-colon src h.1)
plus-test op (fetch_and_update src dst true) h = rw (h.0, has-colon src dst)
plus-test op (fetch_and_update src dst false) h = rw (h.0, has-colon src dst)
plus-test op (push_all_matching_branches force) h = rw h
plus-test op (push_delete dst) h = rw h.0
plus-test op (push_matching src dst force) h = rw h.0
plus-test op (push_exclude src) h = rw h.0

-- an instruction that is fetch-only with `+`
plus-only : (i : Instruction) → plus_only i ≡ true → (src : Text) × (i ≡ fetch_only src) × (begins (bytes "+") src ≡ true)
plus-only (fetch_only src) e = (src, refl, e)
plus-only (fetch_exclude src) e = absurd (false≢true e)
plus-only (fetch_and_update src dst force) e = absurd (false≢true e)
plus-only (push_all_matching_branches force) e = absurd (false≢true e)
plus-only (push_delete dst) e = absurd (false≢true e)
plus-only (push_matching src dst force) e = absurd (false≢true e)
plus-only (push_exclude src) e = absurd (false≢true e)

-- the text of an instruction tells it
text-tells : (op : ℕ) (i : Instruction) → Fine op i → told_by op (instruction_text i) ≡ i
text-tells op i h = rw (plus-test op i h) (go (plus_only i) refl)
  where
    go : (b : Bool) → plus_only i ≡ b → cond b (fetch_only (instruction_text i)) (instruction op (spec_of op (instruction_text i))) ≡ i
    go true e = let q = plus-only i e in rw q.1
    go false e = rw (fine-means op i h e) (fine_back op i h)

-- keys are equal exactly if the instructions are
pub keys-exactly : KeysExactly
unfolding canonical_text
keys-exactly op t u s r h =
    let a = text-tells op (instruction op s) (readable op t s h.first).is-fine in
    let b = text-tells op (instruction op r) (readable op u r h.second).is-fine in
    ((λ q. sym a ∙ ap (told_by op) q ∙ b), (λ q. ap instruction_text q))

-- Reading back

-- a key that fits is read back, and is its own key
pub keys-read-back : KeysReadBack
unfolding canonical_text
keys-read-back op t s e n b =
    let q = fine_back op (instruction op s) (readable op t s e).is-fine in
    let w = every-accepted-has-key op _ _ (text-back op t s e n b) in
    rw q at w

-- a longer one is refused
pub long-keys-refused : LongKeysRefused
unfolding read_spec spec_refusal
long-keys-refused op t s e n = rw (le-leb op 1 (read-is-accepted op t s e).operation, lt-leb _ spec_bytes n)

-- Fetch-only with `+` is never read back

-- the source in an instruction; no bytes where it has none
abbrev source_in : Instruction → Text
source_in (fetch_only src) = src
source_in (fetch_exclude src) = src
source_in (fetch_and_update src dst force) = src
source_in (push_all_matching_branches force) = []
source_in (push_delete dst) = []
source_in (push_matching src dst force) = src
source_in (push_exclude src) = src

-- is that of the spec
fetch-source : (m : Mode) (src : Text) (dst : Option Text) → source_in (fetch_instruction m src dst) ≡ src
fetch-source Negative src dst = refl
fetch-source Normal src none = refl
fetch-source Normal src (some dst) = refl
fetch-source Force src none = refl
fetch-source Force src (some dst) = refl

sides-source : (force : Bool) (src dst : Option Text) → source_in (push_sides force src dst) ≡ or_empty src
sides-source force none none = refl
sides-source force none (some dst) = refl
sides-source force (some src) none = refl
sides-source force (some src) (some dst) = refl

push-source : (m : Mode) (src dst : Option Text) → source_in (push_instruction m src dst) ≡ or_empty src
push-source Negative src dst = refl
push-source Normal src dst = sides-source false src dst
push-source Force src dst = sides-source true src dst

instruction-source : (op : ℕ) (s : Spec) → source_in (instruction op s) ≡ or_empty s.source
unfolding instruction
instruction-source op s = go (push op)
  where
    go : (b : Bool) → source_in (cond b (push_instruction s.mode s.source s.destination) (fetch_instruction s.mode (or_empty s.source) s.destination)) ≡ or_empty s.source
    go true = push-source s.mode s.source s.destination
    go false = fetch-source s.mode (or_empty s.source) s.destination

-- what is meant by a text after a `+` is another source than both
plus-apart : (op : ℕ) (t : Text) → or_empty (source_of op Force (left (sides_of t))) ≡ plus ∷ t → ⊥
plus-apart op t e = go (source_of op Force (left (sides_of t))) refl e
  where
    other : (x : Text) → (x ≡ bytes "HEAD") ⊎ ((x ≡ left (sides_of t)) × Source (left (sides_of t))) → x ≡ plus ∷ t → ⊥
    other x (inl q) p = let z : ◌≡◌ {A = ℕ} 72 43 = cc in omega arith
    other x (inr q) p = omega (arith, sides-length t, ap (λ (l : Text). length l) (sym q.0 ∙ p))

    go : (o : Option Text) → source_of op Force (left (sides_of t)) ≡ o → or_empty o ≡ plus ∷ t → ⊥
    go none h p = let z : ◌≡◌ {A = ℕ} 0 1 = cc in omega arith
    go (some x) h p = other x (source_is op Force (left (sides_of t)) x h) p

-- a text that begins with `+`
begins-plus : (src : Text) → begins (bytes "+") src ≡ true → (t : Text) × (src ≡ plus ∷ t)
begins-plus [] e = absurd (false≢true e)
begins-plus (x ∷ t) e = let p : plus ≡ x = eqb-true plus x (and_left (eqb plus x) true e) in (t, rw p)

-- does not mean itself as a source
plus-means : (op : ℕ) (t : Text) → or_empty (spec_of op (plus ∷ t)).source ≡ plus ∷ t → ⊥
unfolding spec_of spec_from mode_of_byte
plus-means op t e = plus-apart op t e

-- the instruction that a text reads as is that of what it means
instructed-means : (op : ℕ) (t : Text) (i : Instruction) → instructed op t ≡ accepted i → instruction op (spec_of op t) ≡ i
unfolding instructed
instructed-means op t i e =
    let s = and-accepted (read_spec op t) (λ s. accepted (instruction op s)) e in
    let u : instruction op s.0 ≡ i = cc s.2 in
    ap (instruction op) (read-passed op t s.0 s.1).spec_is_lem ∙ u

pub plus-never-reads-back : PlusNeverReadsBack
unfolding canonical_text
plus-never-reads-back op s b f =
    let q = plus-only (instruction op s) b in
    let k = begins-plus q.0 q.2 in
    let e : instructed op (plus ∷ k.0) ≡ accepted (fetch_only (plus ∷ k.0)) = rw (q.1, k.1) at f in
    let m = instructed-means op (plus ∷ k.0) (fetch_only (plus ∷ k.0)) e in
    plus-means op k.0 (sym (instruction-source op (spec_of op (plus ∷ k.0))) ∙ ap source_in m)

-- Groups with the same keys

-- two accepted fetch specs with one key are one, but for the `+` of a fetch-only
same-calm : (t u : Text) (s r : Spec) → TwoSpecs 0 t u s r → canonical_text 0 s ≡ canonical_text 0 r → calm s ≡ calm r
same-calm t u s r h q = sym (calm-plain s t h.first) ∙ ap plain ((keys-exactly 0 t u s r h).0 q) ∙ calm-plain r u h.second

-- so for every place of two groups
all-calm : (group group' : List Spec) → ((s : Spec) → In s group → (t : Text) × (read_spec 0 t ≡ accepted s)) → ((s : Spec) → In s group' → (t : Text) × (read_spec 0 t ≡ accepted s)) → canonical_texts group ≡ canonical_texts group' → map calm group ≡ map calm group'
all-calm [] [] h k q = refl
all-calm [] (r ∷ group') h k q = absurd (let z : ◌≡◌ {A = ℕ} 0 1 = cc in omega arith)
all-calm (s ∷ group) [] h k q = absurd (let z : ◌≡◌ {A = ℕ} 0 1 = cc in omega arith)
all-calm (s ∷ group) (r ∷ group') h k q =
    let a : canonical_text 0 s ≡ canonical_text 0 r = cc in
    let b : canonical_texts group ≡ canonical_texts group' = cc in
    let e = h s here in
    let f = k r here in
    rw (same-calm e.0 f.0 s r (record { first = e.1; second = f.1 }) a, all-calm group group' (λ x m. h x (there m)) (λ x m. k x (there m)) b)

pub same-keys-same-meaning : SameKeysSameMeaning
same-keys-same-meaning specs specs' group group' e f q = same-meaning specs specs' group group' e f (all-calm group group' (group-texts 0 specs group e) (group-texts 0 specs' group' f) q)

-- all of it
pub keys : Keys
keys =
    record {
      every-accepted-has-key = every-accepted-has-key;
      keys-exactly = keys-exactly;
      keys-read-back = keys-read-back;
      long-keys-refused = long-keys-refused;
      keys-within = keys-within;
      plus-never-reads-back = plus-never-reads-back;
      same-keys-same-meaning = same-keys-same-meaning;
    }
