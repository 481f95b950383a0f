-- Which answer a call meets, and what it leaves in its buffers where it tells no refusal. Assumes nothing.
use Prim.Native.Nat.{ℕ, ◌≤◌}
use native.Mathlib.Omega.{arith}
use mathlib.Core.Path.{◌≡◌, refl, ap, ◌∙◌}
use mathlib.Core.Bool.{Bool, true, false, cond}
use mathlib.Core.List.{List, [], ◌∷◌, ◌++◌}
use mathlib.Core.Logic.{◌↔◌, ◌⊎◌, inl, inr}
use mathlib.Core.Option.{Option, none, some}
use borrow.Author.Tests.{le-leb, leb-true, leb-false}
use lib.Dec.{leb}
use lib.ListN.{length, drop, length-append, length-drop}
use lib.Seq.{take-append_seam, drop-append_seam}
use Rattle.meaning.specs.Bytes.{Text}
use Rattle.meaning.specs.Spec.{Answer, accepted, refused}
use Rattle.meaning.specs.Buffers.{Outputs, short, writes, buffers_after, Tells, Meets, or_zero}
use Rattle.promises.proofs.Refusals.{Above}
use Rattle.promises.specs.Terms.{OneCall, MetOne, TwoCall, MetTwo, Leaves, MaybeCall, MetMaybe, TellsAlone, TellsBytes, TellsShort}

-- a call meets an answer exactly when it meets an equal one
pub same-one : {a b : Answer Outputs} → a ≡ b → (c : OneCall) → MetOne a c ↔ MetOne b c
same-one e c = ((λ m. rw (← e) m), (λ m. rw e m))

pub same-two : {a b : Answer Outputs} → a ≡ b → (c : TwoCall) → MetTwo a c ↔ MetTwo b c
same-two e c = ((λ m. rw (← e) m), (λ m. rw e m))

-- a call that tells no refusal has an answer that is accepted
pub one-accepted : (a : Answer Outputs) (c : OneCall) → Above a → MetOne a c → c.refusal ≡ 0 → (w : Outputs) × (a ≡ accepted w)
one-accepted (accepted w) c h m z = (w, refl)
one-accepted (refused n r) c h m z = absurd (omega (arith, m.meets.tells.refusal_is, m.refusal_is))

pub two-accepted : (a : Answer Outputs) (c : TwoCall) → Above a → MetTwo a c → c.refusal ≡ 0 → (w : Outputs) × (a ≡ accepted w)
two-accepted (accepted w) c h m z = (w, refl)
two-accepted (refused n r) c h m z = absurd (omega (arith, m.meets.tells.refusal_is, m.refusal_is))

-- bytes over the front of a buffer
over-front : (before after part : Text) (size : ℕ) → length part ≤ length before → after ≡ part ++ drop (length part) before → size ≡ length part → Leaves before after part size
over-front before after part size h e z =
    let a = length-append part (drop (length part) before) in
    let b = length-drop (length part) before in
    record {
      front = rw (e, z) (take-append_seam part (drop (length part) before));
      size_is = z;
      rest = rw (e, z) (drop-append_seam part (drop (length part) before));
      same_length = rw e (omega arith);
    }

-- the first of a list of buffers, and the second
first_in : List Text → Text
first_in [] = []
first_in (t ∷ l) = t

second_in : List Text → Text
second_in [] = []
second_in (t ∷ l) = first_in l

-- one buffer
pub one-leaves : (a : Answer Outputs) (b : Text) (c : OneCall) → a ≡ accepted (some b ∷ []) → MetOne a c → c.refusal ≡ 0 → Leaves c.before c.after b c.size
unfolding first_in
one-leaves a b c e m z =
    let n : Meets (accepted (some b ∷ [])) (c.before ∷ []) (c.after ∷ []) m.told = rw e at m.meets in
    go (leb (length b) (length c.before)) refl n.buffers-are n.tells
  where
    go : (x : Bool) → leb (length b) (length c.before) ≡ x → c.after ∷ [] ≡ buffers_after (cond x (writes (some b ∷ [])) (short 1 (length b))) (c.before ∷ []) → Tells (cond x (writes (some b ∷ [])) (short 1 (length b))) m.told → Leaves c.before c.after b c.size
    go true x p t = over-front c.before c.after b c.size (leb-true _ _ x) (ap first_in p) (rw t.lengths-are at m.size_is)
    go false x p t = absurd (omega (arith, t.refusal_is, m.refusal_is))

-- a buffer that is long enough is no reason to refuse
pub one-answers : (a : Answer Outputs) (b : Text) (c : OneCall) → a ≡ accepted (some b ∷ []) → MetOne a c → length b ≤ length c.before → c.refusal ≡ 0
one-answers a b c e m h =
    let n : Meets (accepted (some b ∷ [])) (c.before ∷ []) (c.after ∷ []) m.told = rw e at m.meets in
    let t : Tells (writes (some b ∷ [])) m.told = rw (le-leb (length b) (length c.before) h) at n.tells in
    m.refusal_is ∙ t.refusal_is

-- after a refusal
pub one-turned : (n : ℕ) (k : Option ℕ) (c : OneCall) → MetOne (refused n k) c → (c.refusal ≡ n) × (c.after ≡ c.before)
unfolding first_in
one-turned n k c m = (m.refusal_is ∙ m.meets.tells.refusal_is, ap first_in m.meets.buffers-are)

-- one buffer that may be left alone

-- after a refusal
pub maybe-turned : (n : ℕ) (k : Option ℕ) (c : MaybeCall) → MetMaybe (refused n k) c → TellsAlone n (or_zero k) c
unfolding first_in
maybe-turned n k c m =
    let t = m.meets.tells in
    let b : c.size ≡ 0 = let e = rw t.lengths-are at m.size_is in e ∙ t.beside-is in
    record { refusal_is = m.refusal_is ∙ t.refusal_is; record_is = rw t.record_is at m.record_is; unmarked = rw t.lengths-are at m.mark-is; no_length = b; alone = ap first_in m.meets.buffers-are }

-- with nothing to write
pub maybe-alone : (c : MaybeCall) → MetMaybe (accepted (none ∷ [])) c → TellsAlone 0 0 c
unfolding first_in
maybe-alone c m =
    let t = m.meets.tells in
    record { refusal_is = m.refusal_is ∙ t.refusal_is; record_is = rw t.record_is at m.record_is; unmarked = rw t.lengths-are at m.mark-is; no_length = rw t.lengths-are at m.size_is; alone = ap first_in m.meets.buffers-are }

-- with bytes to write: they are written, or the buffer is too short
pub maybe-bytes : (b : Text) (c : MaybeCall) → MetMaybe (accepted (some b ∷ [])) c → TellsBytes b c ⊎ TellsShort b c
unfolding first_in
maybe-bytes b c m = go (leb (length b) (length c.before)) refl m.meets.buffers-are m.meets.tells
  where
    go : (x : Bool) → leb (length b) (length c.before) ≡ x → c.after ∷ [] ≡ buffers_after (cond x (writes (some b ∷ [])) (short 1 (length b))) (c.before ∷ []) → Tells (cond x (writes (some b ∷ [])) (short 1 (length b))) m.told → TellsBytes b c ⊎ TellsShort b c
    go true x p t =
        inl
        (record {
          refusal_is = m.refusal_is ∙ t.refusal_is;
          record_is = rw t.record_is at m.record_is;
          marked = rw t.lengths-are at m.mark-is;
          bytes_left = over-front c.before c.after b c.size (leb-true _ _ x) (ap first_in p) (rw t.lengths-are at m.size_is);
        })
    go false x p t =
        let e : c.size ≡ m.told.beside = rw t.lengths-are at m.size_is in
        inr
        (record {
          too_short = leb-false _ _ x;
          refusal_is = m.refusal_is ∙ t.refusal_is;
          record_is = rw t.record_is at m.record_is;
          unmarked = rw t.lengths-are at m.mark-is;
          length-beside = rw e t.beside-is;
          alone = ap first_in p;
        })

-- two buffers, the first with conflicts
pub record LeavesConflicts (b : Text) (c : TwoCall) : Type 0 where
  pub mark-one : c.mark ≡ 1
  pub first-left : Leaves c.out c.out_after b c.size
  pub second-alone : c.fixes_after ≡ c.fixes
  pub second_none : c.fixes_size ≡ 0

pub two-conflicts : (a : Answer Outputs) (b : Text) (c : TwoCall) → a ≡ accepted (some b ∷ none ∷ []) → MetTwo a c → c.refusal ≡ 0 → LeavesConflicts b c
unfolding first_in second_in
two-conflicts a b c e m z =
    let n : Meets (accepted (some b ∷ none ∷ [])) (c.out ∷ c.fixes ∷ []) (c.out_after ∷ c.fixes_after ∷ []) m.told = rw e at m.meets in
    go (leb (length b) (length c.out)) refl n.buffers-are n.tells
  where
    go : (x : Bool) → leb (length b) (length c.out) ≡ x → c.out_after ∷ c.fixes_after ∷ [] ≡ buffers_after (cond x (writes (some b ∷ none ∷ [])) (short 1 (length b))) (c.out ∷ c.fixes ∷ []) → Tells (cond x (writes (some b ∷ none ∷ [])) (short 1 (length b))) m.told → LeavesConflicts b c
    go true x p t =
        record {
          mark-one = rw t.lengths-are at m.mark-is;
          first-left = over-front c.out c.out_after b c.size (leb-true _ _ x) (ap first_in p) (rw t.lengths-are at m.size_is);
          second-alone = ap second_in p;
          second_none = rw t.lengths-are at m.fixes-size-is;
        }
    go false x p t = absurd (omega (arith, t.refusal_is, m.refusal_is))

-- two buffers, with kept rows and fixes
pub record LeavesBoth (b f : Text) (c : TwoCall) : Type 0 where
  pub mark-none : c.mark ≡ 0
  pub first-left : Leaves c.out c.out_after b c.size
  pub second-left : Leaves c.fixes c.fixes_after f c.fixes_size

pub two-passes : (a : Answer Outputs) (b f : Text) (c : TwoCall) → a ≡ accepted (some b ∷ some f ∷ []) → MetTwo a c → c.refusal ≡ 0 → LeavesBoth b f c
unfolding first_in second_in
two-passes a b f c e m z =
    let n : Meets (accepted (some b ∷ some f ∷ [])) (c.out ∷ c.fixes ∷ []) (c.out_after ∷ c.fixes_after ∷ []) m.told = rw e at m.meets in
    go (leb (length b) (length c.out)) (leb (length f) (length c.fixes)) refl refl n.buffers-are n.tells
  where
    go : (x y : Bool) → leb (length b) (length c.out) ≡ x → leb (length f) (length c.fixes) ≡ y → c.out_after ∷ c.fixes_after ∷ [] ≡ buffers_after (cond x (cond y (writes (some b ∷ some f ∷ [])) (short 2 (length f))) (short 1 (length b))) (c.out ∷ c.fixes ∷ []) → Tells (cond x (cond y (writes (some b ∷ some f ∷ [])) (short 2 (length f))) (short 1 (length b))) m.told → LeavesBoth b f c
    go true true x y p t =
        record {
          mark-none = rw t.lengths-are at m.mark-is;
          first-left = over-front c.out c.out_after b c.size (leb-true _ _ x) (ap first_in p) (rw t.lengths-are at m.size_is);
          second-left = over-front c.fixes c.fixes_after f c.fixes_size (leb-true _ _ y) (ap second_in p) (rw t.lengths-are at m.fixes-size-is);
        }
    go true false x y p t = absurd (omega (arith, t.refusal_is, m.refusal_is))
    go false y x w p t = absurd (omega (arith, t.refusal_is, m.refusal_is))
