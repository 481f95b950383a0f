-- Demand 3, fourth: canonical texts change nothing. Assumes nothing.
use mathlib.Core.Path.{◌≡◌, refl, sym, ap, ◌∙◌}
use mathlib.Core.Bool.{true, not}
use mathlib.Core.List.{List, map}
use mathlib.Core.Option.{Option, none, some}
use Prim.Native.Nat.{ℕ, ◌≤◌}
use native.Mathlib.Omega.{arith}
use borrow.Author.Tests.{leb-true, not-true}
use lib.ListN.{length}
use Rattle.meaning.specs.Bytes.{Text, bytes, ◌or◌, every, begins, present, or_empty, In}
use Rattle.meaning.specs.Limits.{spec_bytes, spec_list_bytes, spec_count}
use Rattle.meaning.specs.Spec.{accepted, Mode, Normal, Force, Negative, Spec, is_negative, read_spec}
use Rattle.meaning.specs.Instruction.{fetch_instruction, instruction, canonical_text}
use Rattle.meaning.specs.Lists.{read_specs}
use Rattle.meaning.specs.Listing.{forward_rows, reverse_rows}
use Rattle.meaning.specs.Entries.{verdict_on, match_lhs, match_rhs, validated}
use Rattle.promises.specs.Terms.{canonical_list, text_fits, plus_only, no_plus, SameMeaning}
use Rattle.promises.specs.Facts.{NoPlusByTheSpec}
use Rattle.promises.specs.Demands.{CanonicalTextsChangeNothing}
use Rattle.promises.proofs.Laws.{every_in}
use Rattle.promises.proofs.Members.{group-count, group-texts, specs-written}
use Rattle.promises.proofs.Accepted.{read-is-accepted, present-is}
use Rattle.promises.proofs.Plain.{spec_is, plain, text-back}
use Rattle.promises.proofs.Calm.{calm, calm-all-twice, calm-forward-rows, calm-reverse-rows, map-length}

-- the spec that the text of a fetch is read as is the calm spec
plain-calm : (m : Mode) (src : Text) (dst : Option Text) → (is_negative m ≡ true → dst ≡ none) → plain (instruction 0 (spec_is m (some src) dst)) ≡ calm (spec_is m (some src) dst)
unfolding instruction calm
plain-calm Normal src none n = refl
plain-calm Normal src (some d) n = refl
plain-calm Force src none n = refl
plain-calm Force src (some d) n = refl
plain-calm Negative src none n = refl
plain-calm Negative src (some d) n = absurd (let q = n refl in let z : ◌≡◌ {A = ℕ} 0 1 = cc in omega arith)

-- by its sides, which spec is no exception
pub no-plus-by-the-spec : NoPlusByTheSpec
unfolding no_plus instruction
no-plus-by-the-spec s = go s.mode s.destination
  where
    go : (m : Mode) (d : Option Text) → not (plus_only (fetch_instruction m (or_empty s.source) d)) ≡ (is_negative m or present d or not (begins (bytes "+") (or_empty s.source)))
    go Normal none = refl
    go Normal (some d) = refl
    go Force none = refl
    go Force (some d) = refl
    go Negative d = refl

pub calm-plain : (s : Spec) (t : Text) → read_spec 0 t ≡ accepted s → plain (instruction 0 s) ≡ calm s
calm-plain s t e =
    let a = read-is-accepted 0 t s e in
    let q = present-is s.source (a.fetch-source refl) in
    let f : s ≡ spec_is s.mode (some q.0) s.destination = λ i. record { mode = s.mode; source = q.1 i; destination = s.destination } in
    rw f (plain-calm s.mode q.0 s.destination a.negative-alone)

-- the canonical text of an accepted spec is read as the spec, but for the `+` of a fetch-only
canon : (s : Spec) (t : Text) → read_spec 0 t ≡ accepted s → text_fits s ≡ true → no_plus s ≡ true → read_spec 0 (canonical_text 0 s) ≡ accepted (calm s)
unfolding canonical_text text_fits no_plus
canon s t e h k = text-back 0 t s e (leb-true _ spec_bytes h) (not-true _ k) ∙ ap accepted (calm-plain s t e)

-- the list of canonical texts is accepted

module _ (group : List Spec) (count : length group ≤ spec_count) (texts : (s : Spec) → In s group → (t : Text) × (read_spec 0 t ≡ accepted s)) (fits : every text_fits group ≡ true) (no_plus_lem : every no_plus group ≡ true) where
  -- each text of the list is short, and read as the calm spec
  text-short : (s : Spec) → In s group → length (canonical_text 0 s) ≤ spec_bytes
  unfolding text_fits
  text-short s m = leb-true _ spec_bytes (every_in text_fits fits m)

  one-back : (s : Spec) → In s group → read_spec 0 (canonical_text 0 s) ≡ accepted (calm s)
  one-back s m = let t = texts s m in canon s t.0 t.1 (every_in text_fits fits m) (every_in no_plus no_plus_lem m)

  list_back : length (canonical_list group) ≤ spec_list_bytes → read_specs 0 (canonical_list group) ≡ accepted (map calm group)
  list_back h = specs-written 0 (omega arith) (canonical_text 0) calm group count text-short one-back h

-- groups that are one, but for the `+` of fetch-only specs, mean the same

module _ (specs specs' : Text) (group group' : List Spec) (e : read_specs 0 specs ≡ accepted group) (e' : read_specs 0 specs' ≡ accepted group') (m : map calm group ≡ map calm group') where
  -- they have as many specs
  same_count : length group ≡ length group'
  same_count = sym (map-length group) ∙ ap (λ (l : List Spec). length l) m ∙ map-length group'

  -- the same rows
  same-forward : (names : List Text) → forward_rows group names ≡ forward_rows group' names
  same-forward names = sym (calm-forward-rows group names) ∙ ap (λ (l : List Spec). forward_rows l names) m ∙ calm-forward-rows group' names

  same-reverse : (names : List Text) → reverse_rows group names ≡ reverse_rows group' names
  same-reverse names = sym (calm-reverse-rows group names) ∙ ap (λ (l : List Spec). reverse_rows l names) m ∙ calm-reverse-rows group' names

  -- the same verdicts
  same-verdict : (list : Text) → verdict_on 0 specs list ≡ verdict_on 0 specs' list
  unfolding verdict_on
  same-verdict list = rw (e, e', same_count)

  -- and all else
  pub same-meaning : SameMeaning group group' specs specs'
  unfolding match_lhs match_rhs validated
  same-meaning =
      record {
        forward-rows = same-forward;
        reverse-rows = same-reverse;
        verdicts = same-verdict;
        forward-entry = λ items. rw (e, e') (simp same-forward);
        reverse-entry = λ items. rw (e, e') (simp same-reverse);
        validated-entry = λ list. rw (same-verdict list);
      }

-- the fourth statement of demand 3
pub canonical-texts-change-nothing : CanonicalTextsChangeNothing
canonical-texts-change-nothing specs group e fits h no_plus_lem =
    let e' = list_back group (group-count 0 specs group e) (group-texts 0 specs group e) fits no_plus_lem h in
    (map calm group, e', same-meaning specs (canonical_list group) group (map calm group) e e' (sym (calm-all-twice group)))
