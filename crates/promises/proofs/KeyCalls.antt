-- What calls for canonical texts leave as keys: document 02, W13. Assumes nothing.
use Prim.Native.Nat.{ℕ}
use native.Mathlib.Omega.{arith}
use mathlib.Core.Path.{◌≡◌, sym, ap, ◌∙◌}
use mathlib.Core.Logic.{◌↔◌}
use mathlib.Core.Option.{none}
use Rattle.meaning.specs.Bytes.{Text}
use Rattle.meaning.specs.Spec.{accepted, Spec, read_spec}
use Rattle.meaning.specs.Instruction.{instruction, canonical_text}
use Rattle.meaning.specs.Entries.{instructed, to_bstring}
use Rattle.promises.specs.Terms.{TwoSpecs, OneCall, MetOne, bytes_of, Leaves}
use Rattle.promises.specs.KeyCalls.{KeyAnswered, KeyTold, KeysToldExactly, KeysToldReadBack, LongKeysTold, PlusNeverToldBack, KeysTold}
use Rattle.promises.proofs.Leaving.{one-accepted, same-one, one-leaves, one-answers, one-turned}
use Rattle.promises.proofs.Refusals.{and-accepted, to-bstring-above}
use Rattle.promises.proofs.Keys.{every-accepted-has-key, keys-exactly, keys-read-back, long-keys-refused, plus-never-reads-back}

-- a call on an accepted spec that tells no refusal leaves its key
pub text-leaves : (op : ℕ) (t : Text) (s : Spec) (c : OneCall) → read_spec op t ≡ accepted s → MetOne (to_bstring op t) c → c.refusal ≡ 0 → Leaves c.before c.after (canonical_text op s) c.size
text-leaves op t s c e m z = one-leaves (to_bstring op t) (canonical_text op s) c (every-accepted-has-key op t s e).1 m z

pub key-answered : KeyAnswered
key-answered op t s c e m h =
    let z = one-answers (to_bstring op t) (canonical_text op s) c (every-accepted-has-key op t s e).1 m h in
    (z, text-leaves op t s c e m z)

pub key-told : KeyTold
unfolding to_bstring
key-told op t c m z =
    let w = one-accepted (to_bstring op t) c (to-bstring-above op t) m z in
    let x = and-accepted (read_spec op t) _ w.1 in
    (x.0, x.1, text-leaves op t x.0 c x.1 m z)

-- two accepted specs have equal answers for their instructions exactly if these are equal
answers-equal : (op : ℕ) (t u : Text) (s r : Spec) → TwoSpecs op t u s r → (instructed op t ≡ instructed op u) ↔ (instruction op s ≡ instruction op r)
answers-equal op t u s r h =
    let a = (every-accepted-has-key op t s h.first).0 in
    let b = (every-accepted-has-key op u r h.second).0 in
    ((λ q. let w : accepted (instruction op s) ≡ accepted (instruction op r) = sym a ∙ q ∙ b in cc), (λ q. a ∙ ap accepted q ∙ sym b))

pub keys-told-exactly : KeysToldExactly
keys-told-exactly op t u c d h =
    let k = key-told op t c h.first-met h.first_done in
    let l = key-told op u d h.second-met h.second-done in
    let two : TwoSpecs op t u k.0 l.0 = record { first = k.1; second = l.1 } in
    let x = keys-exactly op t u k.0 l.0 two in
    let y = answers-equal op t u k.0 l.0 two in
    let a = k.2.front in
    let b = l.2.front in
    ((λ q. y.1 (x.0 (sym a ∙ q ∙ b))), (λ q. a ∙ x.1 (y.0 q) ∙ sym b))

pub keys-told-read-back : KeysToldReadBack
keys-told-read-back op t s c e m z h b =
    let l = text-leaves op t s c e m z in
    let n = l.size_is in
    let k = every-accepted-has-key op t s e in
    let x = keys-read-back op t s e (omega arith) b in
    (rw l.front (x.0 ∙ sym k.0), same-one (rw l.front (x.1 ∙ sym k.1)))

pub long-keys-told : LongKeysTold
unfolding to_bstring
long-keys-told op t c m z h d n =
    let k = key-told op t c m z in
    let size = k.2.size_is in
    let r = long-keys-refused op t k.0 k.1 (omega arith) in
    one-turned 1 none d (rw (k.2.front, r) at n)

pub plus-never-told-back : PlusNeverToldBack
plus-never-told-back op t s c e m z b =
    let l = text-leaves op t s c e m z in
    let k = (every-accepted-has-key op t s e).0 in
    let never : instructed op (bytes_of c) ≡ instructed op t → ⊥ = λ q. plus-never-reads-back op s b (ap (instructed op) (sym l.front) ∙ q ∙ k) in
    (never, λ d n y q. never ((keys-told-exactly op (bytes_of c) t d c (record { first-met = n; first_done = y; second-met = m; second-done = z })).0 q))

-- all of it
pub keys-told : KeysTold
keys-told =
    record {
      key-answered = key-answered;
      key-told = key-told;
      keys-told-exactly = keys-told-exactly;
      keys-told-read-back = keys-told-read-back;
      long-keys-told = long-keys-told;
      plus-never-told-back = plus-never-told-back;
    }
