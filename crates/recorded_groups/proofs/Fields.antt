-- The texts that calls write. Assumes nothing.
use Prim.Native.Nat.{ℕ, ◌≤◌, ◌<◌}
use native.Mathlib.Omega.{arith}
use mathlib.Core.Path.{◌≡◌, refl}
use mathlib.Core.Bool.{Bool, true, false}
use mathlib.Core.List.{List, [], ◌∷◌}
use mathlib.Core.Option.{Option, some}
use borrow.Author.Tests.{eqb-true, eqb-false}
use lib.Dec.{eqb}
use lib.ListN.{length, take, drop}
use Rattle.meaning.specs.Bytes.{Text, begins}
use Rattle.meaning.specs.Spec.{Answer, accepted, refused, Spec}
use Rattle.meaning.specs.Number.{record_bytes}
use Rattle.meaning.specs.Rows.{row_list_of}
use Rattle.meaning.specs.Lists.{read_specs, read_items}
use Rattle.meaning.specs.Listing.{forward_rows, reverse_rows}
use Rattle.meaning.specs.Buffers.{Outputs, refuses, Tells, MeetsOne}
use Rattle.meaning.specs.Entries.{◌and_then◌, match_lhs, match_rhs}
use Rattle.list.proofs.Refusals.{specs-refusal, items-refusal}
use Rattle.number.specs.Reading.{Octets}
use Rattle.prefixes.specs.Group.{group_texts, group_prefixes}
use Rattle.std.specs.Prelude as std
use Rattle.recorded.specs.Record.{sized, sized_room}
use Rattle.recorded.specs.Field.{TextFound, front_at}
use Rattle.recorded.proofs.Fields.{missed, field-stands, text-too-long}
use Rattle.recorded.proofs.Texts.{text-long, front_fits, front-room}
use Rattle.recorded.proofs.Buffers.{one, one-long}
use Rattle.recorded_groups.specs.GroupField.{WrittenFound, AnswerFound}

-- the first text begins after the operation and two bytes
pub first-long : (s : Text) (r : std.Option ℕ) (n : ℕ) → TextFound s 1 r → r ≡ std.Some n → 3 ≤ n
first-long s r n f e = text-long s 1 r n f e

-- ---- a text that a call writes

module _ (s : Text) (at : ℕ) (out : Text) (refusal size : ℕ) where
  pub written-found : at ≤ length s → (r : std.Option ℕ) → refusal ≡ 0 → r ≡ front_at s at out size → WrittenFound s at out refusal size r
  written-found h (std.Some next) z f =
      record { passes = z; stands = field-stands s at (sized (take size out)) h (std.Some next) next (front_fits s at out size (std.Some next) f (front-room s at out size (std.Some next) f next refl)) refl }
  written-found h std.None z f = λ q l. missed s at (sized (take size out)) (front_fits s at out size std.None f l)

-- an answer is one text, or a refusal with a number above 0
data OneText (answer : Answer Outputs) : Type 0 where
  is-text : (b : Text) → answer ≡ accepted (some b ∷ []) → OneText answer
  is-refusal : (n : ℕ) (r : Option ℕ) → 0 < n → answer ≡ refused n r → OneText answer

module _ (answer : Answer Outputs) (entry exit : Text) (refusal record_number size : ℕ) (m : MeetsOne answer entry exit refusal record_number size) where
  -- a call that refuses nothing has written it
  wrote : refusal ≡ 0 → OneText answer → answer ≡ accepted (some (take size exit) ∷ [])
  wrote z (is-text b e) = rw (one b entry exit refusal record_number size (rw e at m) z).is e
  wrote z (is-refusal n r h e) =
      let w : MeetsOne (refused n r) entry exit refusal record_number size = rw e at m in
      let t : Tells (refuses n r) w.told = w.meets.tells in
      let x : w.told.refusal ≡ n = t.refusal_is in
      let y : refusal ≡ w.told.refusal = w.refusal_is in
      absurd (omega arith)

  -- one text that is not found is not in the record
  text-off : (s : Text) (at : ℕ) → Octets s → sized_room ≤ length entry → WrittenFound s at exit refusal size std.None → (text : Text) → answer ≡ accepted (some text ∷ []) → begins (sized text) (drop at s) ≡ false
  text-off s at o h f text e = go (eqb refusal 0) refl
    where
      n : MeetsOne (accepted (some text ∷ [])) entry exit refusal record_number size
      n = rw e at m

      go : (b : Bool) → eqb refusal 0 ≡ b → begins (sized text) (drop at s) ≡ false
      go true z =
          let w = one text entry exit refusal record_number size n (eqb-true refusal 0 z) in
          rw w.is at (f (eqb-true refusal 0 z) w.few)
      go false z = text-too-long s at text o (omega (arith, one-long text entry exit refusal record_number size n (eqb-false refusal 0 z)))

  answer-found : OneText answer → (s : Text) (at : ℕ) → Octets s → sized_room ≤ length entry → (r : std.Option ℕ) → WrittenFound s at exit refusal size r → AnswerFound s at answer r
  answer-found o s at w h (std.Some next) f = record { text = take size exit; is = wrote f.passes o; stands = f.stands }
  answer-found o s at w h std.None f = text-off s at w h f

-- what refuses does so with a number above 0
abbrev Positive : {A : Type 0} → Answer A → Type 0
Positive a = (n : ℕ) (r : Option ℕ) → a ≡ refused n r → 0 < n

two-lists : (f : List Spec → List Text → Text) (a : Answer (List Spec)) → Positive a → (b : Answer (List Text)) → Positive b → OneText (a and_then λ group. b and_then λ names. accepted (some (f group names) ∷ []))
two-lists f (refused n r) p b q = is-refusal n r (p n r refl) refl
two-lists f (accepted group) p (refused n r) q = is-refusal n r (q n r refl) refl
two-lists f (accepted group) p (accepted names) q = is-text (f group names) refl

one_list : (f : List Spec → Text) (a : Answer (List Spec)) → Positive a → OneText (a and_then λ group. accepted (some (f group) ∷ []))
one_list f (refused n r) p = is-refusal n r (p n r refl) refl
one_list f (accepted group) p = is-text (f group) refl

module _ (op : ℕ) (specs entry exit : Text) (refusal record_number size : ℕ) (s : Text) (at : ℕ) (o : Octets s) (h : sized_room ≤ length entry) (r : std.Option ℕ) (f : WrittenFound s at exit refusal size r) where
  pub prefixes-found : MeetsOne (group_prefixes op specs) entry exit refusal record_number size → AnswerFound s at (group_prefixes op specs) r
  unfolding group_prefixes
  prefixes-found m =
      answer-found (group_prefixes op specs) entry exit refusal record_number size m (one_list (λ group. record_bytes (group_texts op group)) (read_specs op specs) (specs-refusal op specs)) s at o h r f

  module _ (items : Text) where
    pub lhs-found : MeetsOne (match_lhs op specs items) entry exit refusal record_number size → AnswerFound s at (match_lhs op specs items) r
    unfolding match_lhs
    lhs-found m =
        answer-found (match_lhs op specs items) entry exit refusal record_number size m
        (two-lists (λ group names. row_list_of (forward_rows group names)) (read_specs op specs) (specs-refusal op specs) (read_items items) (items-refusal items)) s at o h r f

    pub rhs-found : MeetsOne (match_rhs op specs items) entry exit refusal record_number size → AnswerFound s at (match_rhs op specs items) r
    unfolding match_rhs
    rhs-found m =
        answer-found (match_rhs op specs items) entry exit refusal record_number size m
        (two-lists (λ group names. row_list_of (reverse_rows group names)) (read_specs op specs) (specs-refusal op specs) (read_items items) (items-refusal items)) s at o h r f
