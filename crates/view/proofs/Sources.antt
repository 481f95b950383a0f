-- The answers of `source`: the questions on the lists, the spec number and the item field, in order. Assumes nothing.
use mathlib.Core.Path.{◌≡◌, refl, sym, ap, ◌∙◌}
use mathlib.Core.List.{List, [], ◌∷◌, ◌++◌}
use mathlib.Core.Option.{Option, none, some}
use Prim.Native.Nat.{ℕ, suc, ◌+◌, ◌-◌, ◌<◌, ◌≤◌}
use native.Mathlib.Omega.{arith}
use lib.ListN.{length, length-append, length-drop}
use Rattle.meaning.specs.Bytes.{Text}
use Rattle.meaning.specs.Spec.{Answer, accepted, refused, Spec, mode_of, unsigned, read_spec}
use Rattle.meaning.specs.Number.{took, read_text}
use Rattle.meaning.specs.Lists.{read_specs, read_items}
use Rattle.meaning.specs.Match.{object_source}
use Rattle.meaning.specs.View as meaning
use Rattle.promises.proofs.Listings.{object-source}
use Rattle.promises.proofs.Splitting.{unsigned-length, unsigned-append}
use Rattle.promises.proofs.Viewing.{object-length, digits-begin}
use Rattle.parse.specs.Places.{sign_length}
use Rattle.parse.proofs.Places.{unsigned-drop, sign-within}
use Rattle.std.specs.Prelude.{Result, Ok, Err}
use Rattle.refusal.specs.Numbers.{number_of}
use Rattle.list.specs.declared.refused.Refused.{Refused}
use Rattle.list.specs.declared.stretch.Stretch.{Stretch}
use Rattle.list.specs.Checked.{numbers_of, checked}
use Rattle.list.proofs.Told.{Passed, Failed, specs-passed, specs-failed, items-passed, items-failed}
use Rattle.view.specs.declared.Part.{Part}
use Rattle.view.specs.Places.{after_records, extent_at, part_of, refused_part, accepted_part, digits_at, spec_digits}
use Rattle.view.proofs.Walks.{extent-text, extent-fits}
use Rattle.view.proofs.Members.{text-from, item-text, spec-text, nth-there, nth-none}

-- a refusal that a list told
refused-is : {A : Type 0} (a : Answer A) (n k : ℕ) (f : Failed a n k) → refused_part n k ≡ part_of (refused n f.carried)
refused-is a n k f = ap (refused_part n) f.number

-- an item's part is the extent of its record
item-is : (items : Text) (j : ℕ) (t rest : Text) → read_text (after_records j items) ≡ took t rest → accepted_part 0 (extent_at items j).at (extent_at items j).len ≡ part_of (meaning.item_part items j (some t))
unfolding extent_at
item-is items j t rest e =
    let n : length items - length rest - length t ≡ length items - length (t ++ rest) = omega (arith, length-append t rest) in
    rw (e, text-from j items t rest e, n)

-- a text without its sign, before what follows it
unsigned-more : (t rest : Text) → 0 < length t → length (unsigned (t ++ rest)) + sign_length (mode_of t) ≡ length t + length rest
unsigned-more [] rest h = absurd (omega arith)
unsigned-more (x ∷ t) rest h =
    let u : length (unsigned (x ∷ t)) ≡ length (x ∷ t) - sign_length (mode_of (x ∷ t)) = ap length (unsigned-drop (x ∷ t)) ∙ length-drop (sign_length (mode_of (x ∷ t))) (x ∷ t) in
    omega (arith, ap length (unsigned-append x t rest), length-append (unsigned (x ∷ t)) rest, sign-within (x ∷ t))

-- the digits of record i begin where its text without its sign does
spec-begins : (op : ℕ) (specs : Text) (i : ℕ) (t rest : Text) (s : Spec) (d : Text) → read_text (after_records i specs) ≡ took t rest → read_spec op t ≡ accepted s → object_source s ≡ some d → (extent_at specs i).at + sign_length (mode_of t) ≡ length specs - length (unsigned (meaning.from_record i specs))
unfolding extent_at
spec-begins op specs i t rest s d e f q =
    let b = digits-begin op t s d f q in
    let l : 0 < length t = omega (arith, object-length d (object-source s d q).1, ap length b.1, length-append d b.0, unsigned-length t) in
    let n : length specs - length rest - length t + sign_length (mode_of t) ≡ length specs - length (unsigned (t ++ rest)) = omega (arith, unsigned-more t rest l, extent-fits specs i t rest e, sign-within t) in
    rw (e, text-from i specs t rest e) n

-- an object source's part begins after the sign of its spec
digits-is : (op : ℕ) (specs : Text) (i : ℕ) (t rest : Text) (s : Spec) → read_text (after_records i specs) ≡ took t rest → read_spec op t ≡ accepted s → spec_digits op specs (extent_at specs i) ≡ part_of (meaning.digits_part specs i (object_source s))
unfolding spec_digits
digits-is op specs i t rest s e f =
    rw (extent-text specs i t rest e, f) (go (object_source s) refl)
  where
    go : (o : Option Text) → object_source s ≡ o → digits_at ((extent_at specs i).at + sign_length (mode_of t)) o ≡ part_of (meaning.digits_part specs i o)
    go none q = refl
    go (some d) q = ap (λ (m : ℕ). accepted_part 1 m (length d)) (spec-begins op specs i t rest s d e f q)

-- what a refusal of a list makes the view
specs-no : (op : ℕ) (specs items : Text) (field spec n : ℕ) (r : Option ℕ) → read_specs op specs ≡ refused n r → meaning.source_view op specs items field spec ≡ refused n r
unfolding meaning.source_view
specs-no op specs items field spec n r e = rw e

items-no : (op : ℕ) (specs items : Text) (field spec : ℕ) (group : List Spec) (n : ℕ) (r : Option ℕ) → read_specs op specs ≡ accepted group → read_items items ≡ refused n r → meaning.source_view op specs items field spec ≡ refused n r
unfolding meaning.source_view
items-no op specs items field spec group n r e f = rw (e, f)

-- and two lists that are read
both_read : (op : ℕ) (specs items : Text) (field spec : ℕ) (group : List Spec) (names : List Text) → read_specs op specs ≡ accepted group → read_items items ≡ accepted names → meaning.source_view op specs items field spec ≡ meaning.view_of specs items (meaning.nth group spec) names field spec
unfolding meaning.source_view
both_read op specs items field spec group names e f = rw (e, f)

-- the answers
module _ (op : ℕ) (specs items : Text) (field spec : ℕ) (g : Result ℕ Refused) (gs : numbers_of g ≡ checked (read_specs op specs)) where
  -- the spec list is refused
  pub source-specs : (x : Refused) → g ≡ Err x → refused_part (number_of x.refusal) x.«record» ≡ part_of (meaning.source_view op specs items field spec)
  source-specs x z =
      let f = specs-failed op specs g gs x z in
      refused-is (read_specs op specs) (number_of x.refusal) x.«record» f ∙ sym (ap part_of (specs-no op specs items field spec (number_of x.refusal) f.carried f.answer))

  module _ (gn : ℕ) (gz : g ≡ Ok gn) (c : Result ℕ Refused) (cs : numbers_of c ≡ checked (read_items items)) where
    group : Passed (read_specs op specs) gn
    group = specs-passed op specs g gs gn gz

    -- the item list is refused
    pub source-items : (x : Refused) → c ≡ Err x → refused_part (number_of x.refusal) x.«record» ≡ part_of (meaning.source_view op specs items field spec)
    source-items x z =
        let f = items-failed items c cs x z in
        refused-is (read_items items) (number_of x.refusal) x.«record» f ∙ sym (ap part_of (items-no op specs items field spec group.members (number_of x.refusal) f.carried group.answer f.answer))

    module _ (cn : ℕ) (cz : c ≡ Ok cn) where
      names : Passed (read_items items) cn
      names = items-passed items c cs cn cz

      read_as : (o : Option Spec) → meaning.nth group.members spec ≡ o → meaning.source_view op specs items field spec ≡ meaning.view_of specs items o names.members field spec
      read_as o n =
          both_read op specs items field spec group.members names.members group.answer names.answer
          ∙ ap (λ (x : Option Spec). meaning.view_of specs items x names.members field spec) n

      -- the spec number is not in the list
      pub source-outside : gn ≤ spec → refused_part 16 0 ≡ part_of (meaning.source_view op specs items field spec)
      source-outside h = sym (ap part_of (read_as none (nth-none group.members spec (omega (arith, group.counted)))))

      module _ (h : spec < gn) where
        there : (s : Spec) × (meaning.nth group.members spec ≡ some s)
        there = nth-there group.members spec (omega (arith, group.counted))

        read-there : (m : ℕ) → field ≡ m → meaning.source_view op specs items field spec ≡ meaning.view_of specs items (some there.0) names.members m spec
        read-there m k = read_as (some there.0) there.1 ∙ ap (λ (x : ℕ). meaning.view_of specs items (some there.0) names.members x spec) k

        -- the digits of the spec
        pub source-object : (r : Part) → field ≡ 0 → r ≡ spec_digits op specs (extent_at specs spec) → r ≡ part_of (meaning.source_view op specs items field spec)
        source-object r z e =
            let q = spec-text op specs group.members spec there.0 group.answer there.1 in
            e ∙ digits-is op specs spec q.0 q.1 there.0 q.2 q.3 ∙ sym (ap part_of (read-there 0 z))

        module _ (z : field ≡ 0 → ⊥) where
          item-read : (o : Option Text) → meaning.nth names.members (field - 1) ≡ o → meaning.source_view op specs items field spec ≡ meaning.item_part items (field - 1) o
          item-read o n = read-there (suc (field - 1)) (omega arith) ∙ ap (meaning.item_part items (field - 1)) n

          -- the field is above the number of items
          pub source-beyond : cn < field → refused_part 16 0 ≡ part_of (meaning.source_view op specs items field spec)
          source-beyond k = sym (ap part_of (item-read none (nth-none names.members (field - 1) (omega (arith, names.counted)))))

          -- the name of the item
          pub source-item : (e : Stretch) → field ≤ cn → e ≡ extent_at items (field - 1) → accepted_part 0 e.at e.len ≡ part_of (meaning.source_view op specs items field spec)
          source-item e k is =
              let n = nth-there names.members (field - 1) (omega (arith, names.counted)) in
              let q = item-text items names.members (field - 1) n.0 names.answer n.1 in
              rw is (item-is items (field - 1) n.0 q.0 q.1 ∙ sym (ap part_of (item-read (some n.0) n.1)))
