-- A yield as a prefix list: its length, writing it, and the answer that tells of it. Assumes nothing.
use Prim.Native.Nat.{ℕ, ◌+◌, ◌≤◌}
use native.Mathlib.Omega.{arith}
use mathlib.Core.Path.{◌≡◌, sym, ap, ◌∙◌}
use mathlib.Core.List.{[], ◌∷◌, append-nil}
use mathlib.Core.Option.{some}
use lib.ListN.{length}
use Rattle.meaning.specs.Bytes.{Text}
use Rattle.meaning.specs.Spec.{accepted}
use Rattle.meaning.specs.Number.{number_bytes, text_bytes, record_bytes}
use Rattle.meaning.specs.Prefix.{yielded, expand_prefixes}
use Rattle.meaning.specs.Buffers.{MeetsOne}
use Rattle.meaning.specs.Entries.{expanded}
use Rattle.buffer.specs.declared.written.Written.{Written}
use Rattle.buffer.specs.Answers.{refused_with}
use Rattle.buffer.specs.Splice.{splice}
use Rattle.buffer.proofs.Splices.{splice-none}
use Rattle.number.proofs.Texts.{number-room, text-room, text-put}
use Rattle.parse.specs.declared.types.Side.{Side}
use Rattle.parse.specs.declared.types.RefSpec.{RefSpec}
use Rattle.std.specs.Prelude.{Result, Ok, Err}
use Rattle.refusal.specs.declared.Refusal.{Refusal}
use Rattle.refusal.specs.Numbers.{number_of}
use Rattle.parse.specs.Places.{side_meant, Within, SidesWithin, spec_meant, parsed}
use Rattle.expand.specs.declared.Yield.{Yield}
use Rattle.expand.specs.declared.Yield.TheVariants.{Nothing, One}
use Rattle.refspec.specs.Instructions.{side_text}
use Rattle.refspec.specs.Prefixes.{remote_place}
use Rattle.expand.specs.Yields.{yield_place, yield_meant, YieldWithin}
use Rattle.refspec.proofs.Fronts.{remote-meant, remote-within}
use Rattle.spec_text.proofs.Meets.{spec-accepted, spec-refused}
use Rattle.expand.proofs.Yields.{yield-meant, yield-in}

-- ---- how many bytes a yield takes

-- a list of one record
one-record : (t : Text) → record_bytes (t ∷ []) ≡ text_bytes t
unfolding record_bytes
one-record t = append-nil (text_bytes t)

-- the arms of a `match` on a yield
module _ (t : Text) (y : Yield) where
  -- nothing takes none
  pub size-nothing : y ≡ Nothing → 0 ≡ length (record_bytes (yield_meant t y))
  unfolding record_bytes
  size-nothing e = rw e

  module _ (side : Side) (is : y ≡ One side) where
    -- one text stands within the spec
    pub one-within : (len : ℕ) → YieldWithin len y → Within len side
    one-within len w = rw is at w

    -- and takes the bytes of a record
    pub size-one : (r : ℕ) → r ≡ length (text_bytes (side_text t side)) → r ≡ length (record_bytes (yield_meant t y))
    size-one r h = rw (is, one-record (side_text t side)) h

  -- ---- writing it

  module _ (d : Text) where
    -- nothing writes none
    pub put-nothing : y ≡ Nothing → d ≡ splice d 0 (record_bytes (yield_meant t y))
    unfolding record_bytes
    put-nothing e = rw e (sym (splice-none d 0))

    module _ (side : Side) (is : y ≡ One side) where
      -- one text has room
      pub one-room : length (record_bytes (yield_meant t y)) ≤ length d → length (text_bytes (side_text t side)) ≤ length d
      one-room h = rw (is, one-record) at h

      -- and is the list
      pub put_one : (o : Text) → o ≡ splice d 0 (text_bytes (side_text t side)) → o ≡ splice d 0 (record_bytes (yield_meant t y))
      put_one o h = rw (is, one-record (side_text t side)) h

-- a side as a record at the start
module _ (t : Text) (side : Side) (n : ℕ) (en : n ≡ length (side_text t side)) (d : Text) (fits : length (text_bytes (side_text t side)) ≤ length d) where
  -- the record has room from the start on
  from_start : 0 + length (text_bytes (side_text t side)) ≤ length d
  from_start = omega arith

  -- so has its number
  pub record-number-room : 0 + length (number_bytes n) ≤ length d
  record-number-room = number-room (side_text t side) n en d 0 from_start

  module _ (o : Text) (i : ℕ) (eo : o ≡ splice d 0 (number_bytes n)) (ei : i ≡ 0 + length (number_bytes n)) where
    -- and the side after it
    pub record-side-room : i + length (side_text t side) ≤ length o
    record-side-room = text-room (side_text t side) n en d 0 from_start o i eo ei

    -- and both are the record
    pub record-put : (o₂ : Text) (j : ℕ) → o₂ ≡ splice o i (side_text t side) → j ≡ i + length (side_text t side) → o₂ ≡ splice d 0 (text_bytes (side_text t side))
    record-put o₂ j e f = text-put (side_text t side) n en d 0 from_start o i eo ei o₂ j e f

-- ---- the prefixes of a spec that was read

module _ (op : ℕ) (t : Text) (r : RefSpec) (side : Side) (y : Yield) (es : side ≡ remote_place op r) (ey : y ≡ yield_place t side) (w : SidesWithin (length t) r) where
  -- the side stands within the spec
  side-in : Within (length t) side
  side-in = remote-within op (length t) r side w es

  -- so does what it yields
  pub yield-within : YieldWithin (length t) y
  yield-within = rw ey (yield-in t side side-in)

  -- which denotes the spec's prefixes
  pub expand-is : yield_meant t y ≡ expand_prefixes op (spec_meant t r)
  unfolding expand_prefixes
  expand-is = ap (yield_meant t) ey ∙ yield-meant t side side-in ∙ ap yielded (ap (side_meant t) es ∙ remote-meant op t r)

  -- as a list too
  pub expand-list : record_bytes (yield_meant t y) ≡ record_bytes (expand_prefixes op (spec_meant t r))
  expand-list = ap record_bytes expand-is

-- ---- the entry

module _ (op : ℕ) (t : Text) (answer : Result RefSpec Refusal) (ea : answer ≡ parsed op t) (entry : Text) where
  -- an accepted spec's prefixes are written
  pub expanded-accepted : (exit : Text) (r : RefSpec) (a b c : ℕ) → answer ≡ Ok r → MeetsOne (accepted (some (record_bytes (expand_prefixes op (spec_meant t r))) ∷ [])) entry exit a b c → MeetsOne (expanded op t) entry exit a b c
  unfolding expanded
  expanded-accepted = spec-accepted (λ s. record_bytes (expand_prefixes op s)) op t answer ea entry

  -- a refused one leaves the buffer as it was
  pub expanded-refused : (q : Refusal) (n : ℕ) (w : Written) → answer ≡ Err q → n ≡ number_of q → w ≡ refused_with n 0 → MeetsOne (expanded op t) entry entry w.refusal w.«record» w.length
  unfolding expanded
  expanded-refused = spec-refused (λ s. record_bytes (expand_prefixes op s)) op t answer ea entry
