-- The canonical text by its pieces: their length, and writing them one after the other. Assumes nothing.
use Prim.Native.Nat.{ℕ, ◌+◌, ◌≤◌, ◌<◌}
use native.Mathlib.Omega.{arith}
use mathlib.Core.Path.{◌≡◌, refl, sym, ap, ◌∙◌}
use mathlib.Core.Bool.{Bool, true, false, cond}
use mathlib.Core.List.{[], ◌∷◌, ◌++◌, append-nil}
use mathlib.Core.Option.{some}
use Rattle.std.proofs.Common.{Option, Some, None}
use mir.Val.{bool_byte}
use Rattle.std.specs.Option.{is_some}
use lib.ListN.{length, length-append}
use Rattle.meaning.specs.Bytes.{Text}
use Rattle.meaning.specs.Spec.{accepted, is_negative, is_force, push}
use Rattle.meaning.specs.Instruction.{instruction_text, canonical_text}
use Rattle.meaning.specs.Buffers.{MeetsOne}
use Rattle.meaning.specs.Entries.{to_bstring}
use Rattle.buffer.specs.declared.written.Written.{Written}
use Rattle.buffer.specs.Answers.{refused_with}
use Rattle.buffer.specs.Splice.{splice}
use Rattle.buffer.proofs.Splices.{splice-none}
use Rattle.buffer.proofs.Pairs.{pair-first, pair-second, pair_put}
use Rattle.parse.specs.declared.types.Side.{Side}
use Rattle.parse.specs.declared.types.RefSpec.{RefSpec}
use Rattle.std.specs.Prelude.{Result, Ok, Err}
use Rattle.refusal.specs.declared.Refusal.{Refusal}
use Rattle.refusal.specs.Numbers.{number_of}
use Rattle.parse.specs.Places.{mode_meant, Within, SidesWithin, spec_meant, parsed, is_present}
use Rattle.refspec.specs.declared.instruction.Instruction.{Instruction}
use Rattle.refspec.specs.declared.instruction.Instruction.TheVariants.{FetchOnly, FetchExclude, FetchAndUpdate, PushAllMatchingBranches, PushDelete, PushMatching, PushExclude}
use Rattle.write.specs.declared.Pieces.{Pieces}
use Rattle.refspec.specs.Instructions.{side_text, fetch_places, push_places, instruction_places, instruction_meant}
use Rattle.write.specs.Canonical.{pieces_of, sign_text, dst_text, pieces_text, DstWithin, PiecesWithin}
use Rattle.refspec.proofs.Instructions.{instruction-meant}
use Rattle.spec_text.proofs.Meets.{spec-accepted, spec-refused}

-- ---- their length

-- a sign that is there takes a byte
pub sign-length : (sign : Option ℕ) → bool_byte (is_some sign) ≡ length (sign_text sign)
sign-length None = refl
sign-length (Some b) = refl

-- a destination that is there takes a byte more than its side
module _ (t : Text) (dst : Option Side) (r : ℕ) where
  pub dst-some-length : (side : Side) (n : ℕ) → dst ≡ Some side → n ≡ length (side_text t side) → r ≡ 1 + n → r ≡ length (dst_text t dst)
  dst-some-length side n is e h = rw is (omega arith)

  pub dst-none-length : dst ≡ None → r ≡ 0 → r ≡ length (dst_text t dst)
  dst-none-length is h = rw is h

-- the lengths of the pieces add up
pub pieces-length : (t : Text) (p : Pieces) (a b c : ℕ) → a ≡ length (sign_text p.sign) → b ≡ length (side_text t p.src) → c ≡ length (dst_text t p.dst) → a + b + c ≡ length (pieces_text t p)
unfolding pieces_text
pieces-length t p a b c ea eb ec = omega (arith, length-append (sign_text p.sign) (side_text t p.src ++ dst_text t p.dst), length-append (side_text t p.src) (dst_text t p.dst))

-- ---- writing them

-- a destination that is there stands within the spec
pub dst-in : (len : ℕ) (p : Pieces) (side : Side) → p.dst ≡ Some side → DstWithin len p.dst → Within len side
dst-in len p side is w = rw is at w

module _ (t d : Text) (p : Pieces) (fits : length (pieces_text t p) ≤ length d) where
  room : 0 + length (sign_text p.sign ++ (side_text t p.src ++ dst_text t p.dst)) ≤ length d
  unfolding pieces_text
  room = omega arith

  -- the sign has room
  pub sign-room : length (sign_text p.sign) ≤ length d
  sign-room = let g : 0 + length (sign_text p.sign) ≤ length d = pair-first d 0 (sign_text p.sign) (side_text t p.src ++ dst_text t p.dst) room in omega arith

  module _ (d₁ : Text) (i : ℕ) (p₁ : d₁ ≡ splice d 0 (sign_text p.sign)) (e₁ : i ≡ length (sign_text p.sign)) where
    at-i : i ≡ 0 + length (sign_text p.sign)
    at-i = omega arith

    rest-room : i + length (side_text t p.src ++ dst_text t p.dst) ≤ length d₁
    rest-room = pair-second d 0 (sign_text p.sign) (side_text t p.src ++ dst_text t p.dst) room d₁ i p₁ at-i

    -- the source after it
    pub src-room : i + length (side_text t p.src) ≤ length d₁
    src-room = pair-first d₁ i (side_text t p.src) (dst_text t p.dst) rest-room

    module _ (d₂ : Text) (j : ℕ) (p₂ : d₂ ≡ splice d₁ i (side_text t p.src)) (e₂ : j ≡ i + length (side_text t p.src)) where
      dst-room : j + length (dst_text t p.dst) ≤ length d₂
      dst-room = pair-second d₁ i (side_text t p.src) (dst_text t p.dst) rest-room d₂ j p₂ e₂

      pub all-written : (o : Text) → o ≡ splice d₂ j (dst_text t p.dst) → o ≡ splice d 0 (pieces_text t p)
      unfolding pieces_text
      all-written o e = pair_put d 0 (sign_text p.sign) (side_text t p.src ++ dst_text t p.dst) room d₁ i p₁ at-i o (pair_put d₁ i (side_text t p.src) (dst_text t p.dst) rest-room d₂ j p₂ e₂ o e)

      -- without a destination that is all
      pub none-written : p.dst ≡ None → d₂ ≡ splice d 0 (pieces_text t p)
      none-written is = all-written d₂ (rw is (sym (splice-none d₂ j)))

      module _ (side : Side) (is : p.dst ≡ Some side) where
        pair-room : j + length ((58 ∷ []) ++ side_text t side) ≤ length d₂
        pair-room = rw is at dst-room

        -- the colon of one has room
        pub colon-room : j < length d₂
        colon-room = let g : j + 1 ≤ length d₂ = pair-first d₂ j (58 ∷ []) (side_text t side) pair-room in omega arith

        module _ (d₃ : Text) (k : ℕ) (p₃ : d₃ ≡ splice d₂ j (58 ∷ [])) (e₃ : k ≡ j + 1) where
          -- the destination after it
          pub side-room : k + length (side_text t side) ≤ length d₃
          side-room = pair-second d₂ j (58 ∷ []) (side_text t side) pair-room d₃ k p₃ e₃

          -- and that is all
          pub some-written : (o : Text) → o ≡ splice d₃ k (side_text t side) → o ≡ splice d 0 (pieces_text t p)
          some-written o e = all-written o (rw is (pair_put d₂ j (58 ∷ []) (side_text t side) pair-room d₃ k p₃ e₃ o e))

-- ---- the canonical text

-- the pieces of an instruction make its text
pieces-text : (t : Text) (i : Instruction) → pieces_text t (pieces_of i) ≡ instruction_text (instruction_meant t i)
unfolding pieces_text
pieces-text t (FetchOnly src) = append-nil (side_text t src)
pieces-text t (FetchExclude src) = ap (λ (l : Text). 94 ∷ l) (append-nil (side_text t src))
pieces-text t (FetchAndUpdate src dst true) = refl
pieces-text t (FetchAndUpdate src dst false) = refl
pieces-text t (PushAllMatchingBranches true) = refl
pieces-text t (PushAllMatchingBranches false) = refl
pieces-text t (PushDelete dst) = refl
pieces-text t (PushMatching src dst true) = refl
pieces-text t (PushMatching src dst false) = refl
pieces-text t (PushExclude src) = ap (λ (l : Text). 94 ∷ l) (append-nil (side_text t src))

-- an instruction's pieces stand within what its spec's sides stand within
module _ (len : ℕ) where
  fetch-pieces : (f : Bool) (src dst : Side) → Within len src → Within len dst → PiecesWithin len (pieces_of (fetch_places f src dst))
  unfolding fetch_places
  fetch-pieces f src dst s d = go (is_present dst)
    where
      go : (b : Bool) → PiecesWithin len (pieces_of (cond b (FetchAndUpdate src dst f) (FetchOnly src)))
      go true = record { src-within = s; dst-within = d }
      go false = record { src-within = s; dst-within = tt }

  push-pieces : (f : Bool) (src dst : Side) → Within len src → Within len dst → PiecesWithin len (pieces_of (push_places f src dst))
  unfolding push_places
  push-pieces f src dst s d = go (is_present src) (is_present dst)
    where
      go : (a b : Bool) → PiecesWithin len (pieces_of (cond a (PushMatching src (cond b dst src) f) (cond b (PushDelete dst) (PushAllMatchingBranches f))))
      go true true = record { src-within = s; dst-within = d }
      go true false = record { src-within = s; dst-within = s }
      go false true = record { src-within = tt; dst-within = d }
      go false false = record { src-within = tt; dst-within = tt }

  instruction-pieces : (op : ℕ) (r : RefSpec) → SidesWithin len r → PiecesWithin len (pieces_of (instruction_places op r))
  unfolding instruction_places
  instruction-pieces op r w = go (is_negative (mode_meant r.mode)) (push op)
    where
      go : (a b : Bool) → PiecesWithin len (pieces_of (cond a (cond b (PushExclude r.src) (FetchExclude r.src)) (cond b (push_places (is_force (mode_meant r.mode)) r.src r.dst) (fetch_places (is_force (mode_meant r.mode)) r.src r.dst))))
      go true true = record { src-within = w.src-within; dst-within = tt }
      go true false = record { src-within = w.src-within; dst-within = tt }
      go false true = push-pieces (is_force (mode_meant r.mode)) r.src r.dst w.src-within w.dst-within
      go false false = fetch-pieces (is_force (mode_meant r.mode)) r.src r.dst w.src-within w.dst-within

module _ (op : ℕ) (t : Text) (r : RefSpec) (i : Instruction) (p : Pieces) (ei : i ≡ instruction_places op r) (ep : p ≡ pieces_of i) where
  -- the pieces of a spec stand within it
  pub pieces-within : (len : ℕ) → SidesWithin len r → PiecesWithin len p
  pieces-within len w = rw (ep, ei) (instruction-pieces len op r w)

  -- the pieces of a spec make its canonical text
  pub canonical-is : pieces_text t p ≡ canonical_text op (spec_meant t r)
  unfolding canonical_text
  canonical-is = ap (pieces_text t) (ep ∙ ap pieces_of ei) ∙ pieces-text t (instruction_places op r) ∙ ap instruction_text (instruction-meant op t r)

-- ---- the entry

module _ (op : ℕ) (t : Text) (answer : Result RefSpec Refusal) (ea : answer ≡ parsed op t) (entry : Text) where
  -- an accepted spec is written
  pub bstring-accepted : (exit : Text) (r : RefSpec) (a b c : ℕ) → answer ≡ Ok r → MeetsOne (accepted (some (canonical_text op (spec_meant t r)) ∷ [])) entry exit a b c → MeetsOne (to_bstring op t) entry exit a b c
  unfolding to_bstring
  bstring-accepted = spec-accepted (canonical_text op) op t answer ea entry

  -- a refused one leaves the buffer as it was
  pub bstring-refused : (q : Refusal) (n : ℕ) (w : Written) → answer ≡ Err q → n ≡ number_of q → w ≡ refused_with n 0 → MeetsOne (to_bstring op t) entry entry w.refusal w.«record» w.length
  unfolding to_bstring
  bstring-refused = spec-refused (canonical_text op) op t answer ea entry
