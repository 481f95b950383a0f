-- A whole answer, and a whole record, from their fields. Assumes nothing.
use Prim.Native.Nat.{ℕ, ◌+◌, ◌-◌, ◌≤◌}
use native.Mathlib.Omega.{arith}
use mathlib.Core.Path.{◌≡◌, refl, sym, ap, ◌∙◌}
use mathlib.Core.Bool.{Bool, true, false, false≢true}
use mathlib.Core.Logic.{◌↔◌}
use mathlib.Core.List.{[], ◌∷◌, ◌++◌}
use mathlib.Core.Option.{Option, none, some}
use lib.ListN.{length, get_or, take, drop}
use Rattle.meaning.specs.Bytes.{Text, same}
use Rattle.meaning.specs.Spec.{accepted, refused, Spec, read_spec}
use Rattle.meaning.specs.Instruction.{canonical_text}
use Rattle.meaning.specs.Prefix.{name_prefix, prefix, prefix_of, expand_prefixes}
use Rattle.promises.proofs.Laws.{same-is, same_refl}
use Rattle.text.proofs.Rests.{rest-cons, rest_part}
use Rattle.parse.specs.declared.types.Side.{Side}
use Rattle.parse.specs.declared.types.Side.TheVariants.{Absent, Part, Head}
use Rattle.std.specs.Prelude.{Result, Ok, Err}
use Rattle.refusal.specs.declared.Refusal.{Refusal}
use Rattle.refusal.specs.Numbers.{number_of}
use Rattle.parse.specs.declared.types.RefSpec.{RefSpec}
use Rattle.parse.specs.Places.{part_at, side_meant, Within, spec_meant, parsed}
use Rattle.parse.proofs.Parts.{part_length}
use Rattle.parse.proofs.Answers.{read-accepted, read-refused, read-within}
use Rattle.refspec.specs.declared.instruction.Instruction.{Instruction}
use Rattle.refspec.specs.Instructions.{instruction_meant, instruction_places, instructed_by, instructed_places}
use Rattle.refspec.specs.Prefixes.{remote_place, prefix_at, prefix_place, prefixed_by, prefixed_places}
use Rattle.refspec.proofs.Instructions.{instruction-meant}
use Rattle.refspec.proofs.Fronts.{IsFront, prefix-front, prefix-meant, remote-meant, remote-within}
use Rattle.std.specs.Prelude as std
use Rattle.recorded.specs.Record.{sized, instruction_bytes, prefix_bytes, prefixes_bytes, answer_bytes, answer_record, IsRecord}
use Rattle.recorded.specs.Field.{field_at, TextFound, Instructs}
use Rattle.recorded.proofs.Fields.{field-within, field_both, field-first, sized-once}
use Rattle.recorded.proofs.Texts.{text_at_lem}

-- ---- the instruction

-- ---- the prefix

module _ (s : Text) (at : ℕ) where
  -- a prefix that is there
  module _ (want : Text) (r : std.Option ℕ) (e : r ≡ field_at s at (1 ∷ [])) where
    pub found-present : (m : ℕ) → r ≡ std.Some m → (r₂ : std.Option ℕ) → r₂ ≡ field_at s m (sized want) → r₂ ≡ field_at s at (1 ∷ sized want)
    found-present m q r₂ f = field_both s at (1 ∷ []) r e m q (sized want) r₂ f

    pub found-no-mark : r ≡ std.None → std.None ≡ field_at s at (1 ∷ sized want)
    found-no-mark q = field-first s at (1 ∷ []) r e q (sized want)

-- a prefix stands within the spec
front-within : (t : Text) (at n : ℕ) (o : Option Text) → at + n ≤ length t → IsFront (part_at t at n) o → Within (length t) (prefix_at at o)
front-within t at n none h f = tt
front-within t at n (some p) h f = omega (arith, f.at_most, part_length t at n h)

place-within : (t : Text) (side : Side) → Within (length t) side → Within (length t) (prefix_place t side)
place-within t Absent w = tt
place-within t (Part at n) w = front-within t at n (name_prefix (part_at t at n)) w (prefix-front (part_at t at n))
place-within t Head w = tt

-- a prefix that is answered, and the spec that was read
record PrefixRead (op : ℕ) (t : Text) (side : Side) : Type 0 where
  within : Within (length t) side
  is : (s : Spec) → read_spec op t ≡ accepted s → side_meant t side ≡ prefix op s

-- a refusal, of a spec that was not accepted
pub no-prefix : (op : ℕ) (t : Text) (p : Result Side Refusal) → p ≡ prefixed_places op t → (n : Refusal) → p ≡ Err n → (told : Text) (at : ℕ) (s : Spec) → read_spec op t ≡ accepted s → std.None ≡ field_at told at (prefix_bytes (prefix op s))
unfolding prefixed_places
no-prefix op t p ep n e told at s h = absurd (go (parsed op t) refl (sym e ∙ ep))
  where
    go : (a : Result RefSpec Refusal) → a ≡ parsed op t → Err n ≡ prefixed_by op t a → ⊥
    go (Err m) ea q = let g = read-refused op t (Err m) ea m refl in cc
    go (Ok r) ea q = cc

module _ (op : ℕ) (t : Text) (p : Result Side Refusal) (ep : p ≡ prefixed_places op t) (side : Side) (e : p ≡ Ok side) where
  prefix-read : PrefixRead op t side
  unfolding prefixed_places prefix
  prefix-read = go (parsed op t) refl (sym e ∙ ep)
    where
      go : (a : Result RefSpec Refusal) → a ≡ parsed op t → Ok side ≡ prefixed_by op t a → PrefixRead op t side
      go (Err n) ea q = absurd cc
      go (Ok r) ea q =
          let x : side ≡ prefix_place t (remote_place op r) = cc in
          let w : Within (length t) (remote_place op r) = remote-within op (length t) r (remote_place op r) (read-within op t (Ok r) ea r refl) refl in
          record {
            within = rw x (place-within t (remote_place op r) w);
            is = λ s h.
                let y : spec_meant t r ≡ s = let g = read-accepted op t (Ok r) ea r refl in cc in
                ap (side_meant t) x ∙ prefix-meant t (remote_place op r) w ∙ ap prefix_of (remote-meant op t r) ∙ ap (prefix op) y;
          }

  pub prefix-within : Within (length t) side
  prefix-within = prefix-read.within

  pub found_prefix : (s : Text) (at : ℕ) (r : std.Option ℕ) → r ≡ field_at s at (prefix_bytes (side_meant t side)) → (spec : Spec) → read_spec op t ≡ accepted spec → r ≡ field_at s at (prefix_bytes (prefix op spec))
  found_prefix s at r f spec h = rw (prefix-read.is spec h) at f

-- ---- the answer

-- the fields of a spec that is accepted, one after another: its instruction, its canonical text, its prefix and its prefixes
module _ (told : Text) (at op : ℕ) (t : Text) (i : Instruction) (w : Instructs op t i) (r₁ : std.Option ℕ) (f₁ : (t : Text) → r₁ ≡ field_at told at (instruction_bytes (instruction_meant t i))) where
  abbrev first : Text
  first = instruction_bytes (instruction_meant t i)

  abbrev second : Text
  second = sized (canonical_text op w.accepts.spec)

  abbrev third : Text
  third = prefix_bytes (prefix op w.accepts.spec)

  abbrev fourth : Text
  fourth = prefixes_bytes (expand_prefixes op w.accepts.spec)

  whole : (r : std.Option ℕ) → r ≡ field_at told at (first ++ (second ++ (third ++ fourth))) → r ≡ field_at told at (answer_bytes op (read_spec op t))
  whole r h = rw w.accepts.reads (rw w.meant at h)

  pub first-differs : r₁ ≡ std.None → std.None ≡ field_at told at (answer_bytes op (read_spec op t))
  first-differs q = whole std.None (field-first told at first r₁ (f₁ t) q (second ++ (third ++ fourth)))

  module _ (n₁ : ℕ) (q₁ : r₁ ≡ std.Some n₁) where
    pub first-within : at ≤ length told → n₁ ≤ length told
    first-within h = field-within told at first h r₁ n₁ (f₁ t) q₁

    after-first : (r : std.Option ℕ) → r ≡ field_at told n₁ (second ++ (third ++ fourth)) → r ≡ field_at told at (answer_bytes op (read_spec op t))
    after-first r h = whole r (field_both told at first r₁ (f₁ t) n₁ q₁ (second ++ (third ++ fourth)) r h)

    module _ (r₂ : std.Option ℕ) (f₂ : (s : Spec) → read_spec op t ≡ accepted s → r₂ ≡ field_at told n₁ (sized (canonical_text op s))) where
      is₂ : r₂ ≡ field_at told n₁ second
      is₂ = f₂ w.accepts.spec w.accepts.reads

      pub second-differs : r₂ ≡ std.None → std.None ≡ field_at told at (answer_bytes op (read_spec op t))
      second-differs q = after-first std.None (field-first told n₁ second r₂ is₂ q (third ++ fourth))

      module _ (n₂ : ℕ) (q₂ : r₂ ≡ std.Some n₂) where
        pub second-within : at ≤ length told → n₂ ≤ length told
        second-within h = field-within told n₁ second (first-within h) r₂ n₂ is₂ q₂

        after-second : (r : std.Option ℕ) → r ≡ field_at told n₂ (third ++ fourth) → r ≡ field_at told at (answer_bytes op (read_spec op t))
        after-second r h = after-first r (field_both told n₁ second r₂ is₂ n₂ q₂ (third ++ fourth) r h)

        module _ (r₃ : std.Option ℕ) (f₃ : (s : Spec) → read_spec op t ≡ accepted s → r₃ ≡ field_at told n₂ (prefix_bytes (prefix op s))) where
          is₃ : r₃ ≡ field_at told n₂ third
          is₃ = f₃ w.accepts.spec w.accepts.reads

          pub third-differs : r₃ ≡ std.None → std.None ≡ field_at told at (answer_bytes op (read_spec op t))
          third-differs q = after-second std.None (field-first told n₂ third r₃ is₃ q fourth)

          module _ (n₃ : ℕ) (q₃ : r₃ ≡ std.Some n₃) where
            pub third-within : at ≤ length told → n₃ ≤ length told
            third-within h = field-within told n₂ third (second-within h) r₃ n₃ is₃ q₃

            pub fourth-decides : (r : std.Option ℕ) → ((s : Spec) → read_spec op t ≡ accepted s → r ≡ field_at told n₃ (prefixes_bytes (expand_prefixes op s))) → r ≡ field_at told at (answer_bytes op (read_spec op t))
            fourth-decides r f = after-second r (field_both told n₂ third r₃ is₃ n₃ q₃ fourth r (f w.accepts.spec w.accepts.reads))

module _ (op : ℕ) (t : Text) (q : Result Instruction Refusal) (eq : q ≡ instructed_places op t) where
  -- an instruction that is answered, and the spec that was read
  pub answer-instructs : (i : Instruction) → q ≡ Ok i → Instructs op t i
  unfolding instructed_places
  answer-instructs i e = go (parsed op t) refl (sym e ∙ eq)
    where
      go : (a : Result RefSpec Refusal) → a ≡ parsed op t → Ok i ≡ instructed_by op a → Instructs op t i
      go (Err n) ea z = absurd cc
      go (Ok p) ea z =
          let x : i ≡ instruction_places op p = cc in
          record { accepts = record { spec = spec_meant t p; reads = read-accepted op t (Ok p) ea p refl }; meant = ap (instruction_meant t) x ∙ instruction-meant op t p }

  pub answer-refused : (told : Text) (at : ℕ) (r : Bool) (n : Refusal) → q ≡ Err n → r ≡ same (0 ∷ []) (take (length told - at) (drop at told)) → r ≡ same (answer_bytes op (read_spec op t)) (drop at told)
  unfolding instructed_places
  answer-refused told at r n e f = rw (go (parsed op t) refl (sym e ∙ eq)) (rw (rest_part told at) at f)
    where
      go : (a : Result RefSpec Refusal) → a ≡ parsed op t → Err n ≡ instructed_by op a → read_spec op t ≡ refused (number_of n) none
      go (Err m) ea z = let x : m ≡ n = cc in rw (← x) (read-refused op t (Err m) ea m refl)
      go (Ok p) ea z = absurd cc

-- ---- the record

module _ (told : Text) where
  -- a record has an operation
  pub record-none : length told ≡ 0 → (false ≡ true) ↔ IsRecord told
  unfolding answer_record
  record-none h = ((λ y. absurd (false≢true y)), (λ i. absurd (omega (arith, ap length i.is))))

  -- and then its spec and the answer
  spec-follows : (i : IsRecord told) → drop 1 told ≡ sized i.spec ++ answer_bytes i.op (read_spec i.op i.spec)
  unfolding answer_record
  spec-follows i = ap (drop 1) i.is

  module _ (p : std.Option ℕ) (fp : TextFound told 1 p) where
    pub record-cut : p ≡ std.None → (false ≡ true) ↔ IsRecord told
    record-cut e =
        let f : TextFound told 1 std.None = rw e at fp in
        ((λ y. absurd (false≢true y)), (λ i. absurd (f i.spec (answer_bytes i.op (read_spec i.op i.spec)) (spec-follows i))))

    module _ (end : ℕ) (ep : p ≡ std.Some end) where
      abbrev spec : Text
      spec = take (end - 3) (drop 3 told)

      after : drop 1 told ≡ sized spec ++ drop end told
      after = (text_at_lem told 1 p end fp ep).stands.is

      -- the operation, the spec and the answer
      pub record-whole : (op : ℕ) (b : Bool) → 1 ≤ length told → op ≡ get_or told 0 0 → b ≡ same (answer_bytes op (read_spec op (take (end - 3) (drop 3 told)))) (drop end told) → (b ≡ true) ↔ IsRecord told
      unfolding answer_record
      record-whole op b h eo f = (is, tells)
        where
          is : b ≡ true → IsRecord told
          is y =
              let rest : drop end told ≡ answer_bytes op (read_spec op spec) = sym (same-is (answer_bytes op (read_spec op spec)) (drop end told) (sym f ∙ y)) in
              record { op = op; spec = spec; is = rest-cons told 0 (omega arith) ∙ rw (← eo) (ap (λ (x : Text). op ∷ x) (after ∙ ap (λ (x : Text). sized spec ++ x) rest)) }

          tells : IsRecord told → b ≡ true
          tells i =
              let s = sized-once spec i.spec (drop end told) (answer_bytes i.op (read_spec i.op i.spec)) (sym after ∙ spec-follows i) in
              let o : op ≡ i.op = eo ∙ ap (λ (x : Text). get_or x 0 0) i.is in
              f ∙ rw (o, s.0, s.1) (same_refl (answer_bytes i.op (read_spec i.op i.spec)))
