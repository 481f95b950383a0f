-- The bytes of a part: out of which list they are, and that they stand in it. Assumes nothing.
use mathlib.Core.Path.{◌≡◌, refl, sym, ap, ◌∙◌}
use mathlib.Core.List.{List}
use mathlib.Core.Option.{Option, none, some}
use Prim.Native.Nat.{ℕ, zero, suc, ◌+◌, ◌-◌, ◌≤◌}
use native.Mathlib.Omega.{arith}
use lib.ListN.{length, take, drop, length-take, length-drop}
use Rattle.meaning.specs.Bytes.{Text}
use Rattle.meaning.specs.Spec.{Answer, accepted, refused, Spec, unsigned}
use Rattle.meaning.specs.Lists.{read_specs, read_items}
use Rattle.meaning.specs.Match.{object_source}
use Rattle.meaning.specs.Entries.{◌and_then◌}
use Rattle.meaning.specs.View as meaning
use Rattle.promises.proofs.Viewing.{refused-not, view-spells}
use Rattle.view.specs.declared.Part.{Part}
use Rattle.view.specs.Places.{part_of}

-- the list that an item field chooses
abbrev chosen : ℕ → meaning.Lent
chosen zero = meaning.spec_list
chosen (suc j) = meaning.item_list

-- a part out of the chosen list, which holds it
record Held (specs items : Text) (field : ℕ) (p : meaning.Part) : Type 0 where
  out_of : p.list ≡ chosen field
  within : p.start + p.size ≤ length (meaning.lent_list p.list specs items)

-- so many bytes that are taken at a place stand there
taken-within : (s : Text) (start size : ℕ) → start ≤ length s → size ≡ length (take size (drop start s)) → start + size ≤ length s
taken-within s start size h e = omega (arith, length-take size (drop start s), length-drop start s)

module _ (specs items : Text) (p : meaning.Part) where
  -- a part with the bytes of a text is in its list
  part_held : (which : meaning.Lent) (list rest d : Text) → meaning.lent_list which specs items ≡ list → meaning.part_from which list rest (length d) ≡ p → d ≡ meaning.part_text p specs items → (p.list ≡ which) × (p.start + p.size ≤ length (meaning.lent_list p.list specs items))
  part_held which list rest d l e t =
      let u : d ≡ take (length d) (drop (length list - length rest) list) = t ∙ ap (λ (x : meaning.Part). meaning.part_text x specs items) (sym e) ∙ ap (λ (x : Text). take (length d) (drop (length list - length rest) x)) l in
      let w : length list - length rest + length d ≤ length (meaning.lent_list which specs items) = rw l (taken-within list (length list - length rest) (length d) (omega arith) (ap length u)) in
      rw (← e) (refl, w)

  module _ (op : ℕ) (group : List Spec) (names : List Text) (i : ℕ) (gs : read_specs op specs ≡ accepted group) (ns : read_items items ≡ accepted names) where
    digits-held : (s : Spec) → meaning.source_view op specs items 0 i ≡ accepted p → meaning.nth group i ≡ some s → (o : Option Text) → object_source s ≡ o → meaning.digits_part specs i o ≡ accepted p → Held specs items 0 p
    digits-held s e n none q f = absurd (refused-not f)
    digits-held s e n (some d) q f =
        let v = view-spells op specs items 0 i p group names gs ns e in
        let t : some d ≡ some (meaning.part_text p specs items) = sym q ∙ ap object_source (let u : s ≡ v.0 = cc v.1 in u) ∙ v.2 in
        let k = part_held meaning.spec_list specs (unsigned (meaning.from_record i specs)) d refl (cc) (cc) in
        record { out_of = k.0; within = k.1 }

    item-held : (j : ℕ) → meaning.source_view op specs items (suc j) i ≡ accepted p → (o : Option Text) → meaning.nth names j ≡ o → meaning.item_part items j o ≡ accepted p → Held specs items (suc j) p
    item-held j e none q f = absurd (refused-not f)
    item-held j e (some t) q f =
        let v = view-spells op specs items (suc j) i p group names gs ns e in
        let u : some t ≡ some (meaning.part_text p specs items) = sym q ∙ v in
        let k = part_held meaning.item_list items (meaning.from_record j items) t refl (cc) (cc) in
        record { out_of = k.0; within = k.1 }

    held : (field : ℕ) → meaning.source_view op specs items field i ≡ accepted p → (o : Option Spec) → meaning.nth group i ≡ o → meaning.view_of specs items o names field i ≡ accepted p → Held specs items field p
    held zero e none n f = absurd (refused-not f)
    held zero e (some s) n f = digits-held s e n (object_source s) refl f
    held (suc j) e none n f = absurd (refused-not f)
    held (suc j) e (some s) n f = item-held j e (meaning.nth names j) refl f

  -- the part of a view is out of the list that the field chooses, and in it
  view-held : (op field i : ℕ) → meaning.source_view op specs items field i ≡ accepted p → Held specs items field p
  unfolding meaning.source_view
  view-held op field i e = go (read_specs op specs) refl (read_items items) refl e
    where
      go : (a : Answer (List Spec)) → read_specs op specs ≡ a → (b : Answer (List Text)) → read_items items ≡ b → (a and_then λ group. b and_then λ names. meaning.view_of specs items (meaning.nth group i) names field i) ≡ accepted p → Held specs items field p
      go (refused n r) g b h q = absurd (refused-not q)
      go (accepted group) g (refused n r) h q = absurd (refused-not q)
      go (accepted group) g (accepted names) h q = held op group names i g h field e (meaning.nth group i) refl q

-- the answers of `view`
module _ (op : ℕ) (specs items : Text) (field spec : ℕ) (p : Part) (is : p ≡ part_of (meaning.source_view op specs items field spec)) where
  -- the number
  pub view-number : p.refusal ≡ (meaning.view_numbers (meaning.source_view op specs items field spec)).refusal
  view-number = ap (λ (x : Part). x.refusal) is

  pub view-record : p.«record» ≡ (meaning.view_numbers (meaning.source_view op specs items field spec)).record_number
  view-record = ap (λ (x : Part). x.«record») is

  -- the list that the field chooses, and what stands in it
  module _ (which : meaning.Lent) (c : chosen field ≡ which) where
    room : p.start + p.length ≤ length (meaning.lent_list which specs items)
    room = go (meaning.source_view op specs items field spec) refl is
      where
        go : (a : Answer meaning.Part) → meaning.source_view op specs items field spec ≡ a → p ≡ part_of a → p.start + p.length ≤ length (meaning.lent_list which specs items)
        go (refused n r) f e = omega (arith, ap (λ (x : Part). x.start) e, ap (λ (x : Part). x.length) e)
        go (accepted q) f e =
            let k = view-held specs items q op field spec f in
            let l : length (meaning.lent_list q.list specs items) ≡ length (meaning.lent_list which specs items) = ap (λ (x : meaning.Lent). length (meaning.lent_list x specs items)) (k.out_of ∙ c) in
            omega (arith, k.within, ap (λ (x : Part). x.start) e, ap (λ (x : Part). x.length) e)

    shown : take p.length (drop p.start (meaning.lent_list which specs items)) ≡ meaning.view_text (meaning.source_view op specs items field spec) specs items
    shown = go (meaning.source_view op specs items field spec) refl is
      where
        go : (a : Answer meaning.Part) → meaning.source_view op specs items field spec ≡ a → p ≡ part_of a → take p.length (drop p.start (meaning.lent_list which specs items)) ≡ meaning.view_text a specs items
        go (refused n r) f e = ap (λ (x : Part). take x.length (drop x.start (meaning.lent_list which specs items))) e
        go (accepted q) f e =
            let k = view-held specs items q op field spec f in
            ap (λ (x : Part). take x.length (drop x.start (meaning.lent_list which specs items))) e ∙ ap (λ (x : meaning.Lent). take q.size (drop q.start (meaning.lent_list x specs items))) (sym (k.out_of ∙ c))

  -- field 0 chooses the spec list
  module _ (z : field ≡ 0) where
    pub view-specs-room : p.start + p.length ≤ length specs
    view-specs-room = room meaning.spec_list (ap chosen z)

    pub view-specs : (r : Text) → r ≡ take p.length (drop p.start specs) → r ≡ meaning.view_text (meaning.source_view op specs items field spec) specs items
    view-specs r e = e ∙ shown meaning.spec_list (ap chosen z)

  -- any other the item list
  module _ (z : field ≡ 0 → ⊥) where
    other : (n : ℕ) → n ≡ field → chosen n ≡ meaning.item_list
    other zero e = absurd (z (sym e))
    other (suc j) e = refl

    pub view-items-room : p.start + p.length ≤ length items
    view-items-room = room meaning.item_list (other field refl)

    pub view-items : (r : Text) → r ≡ take p.length (drop p.start items) → r ≡ meaning.view_text (meaning.source_view op specs items field spec) specs items
    view-items r e = e ∙ shown meaning.item_list (other field refl)
