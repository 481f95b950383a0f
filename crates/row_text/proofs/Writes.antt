-- The texts that a match makes: how many bytes they have, and writing them. Assumes nothing.
use Prim.Native.Nat.{ℕ, ◌+◌, ◌≤◌}
use native.Mathlib.Omega.{arith}
use native.Mathlib.Nat.{add-zero}
use mathlib.Core.Path.{◌≡◌, refl, sym, ap, ◌∙◌}
use mathlib.Core.Bool.{Bool, true, false, false≢true}
use mathlib.Core.List.{[], ◌++◌}
use mir.Val.{Fits}
use mir.Syntax.{w64}
use lib.ListN.{length, length-append}
use lib.Seq.{take_all}
use Rattle.meaning.specs.Bytes.{Text, or_empty, lower}
use Rattle.meaning.specs.Limits.{spec_list_bytes, name_bytes}
use Rattle.buffer.specs.Splice.{splice}
use Rattle.buffer.proofs.Splices.{splice-none}
use Rattle.buffer.proofs.Pairs.{pair-first, pair-second, pair_put, pair_end}
use Rattle.parse.specs.declared.types.Side.{Side}
use Rattle.parse.specs.Places.{part_at, Within}
use Rattle.parse.proofs.Parts.{part_length}
use Rattle.refspec.specs.Instructions.{side_text}
use Rattle.refspec.proofs.Texts.{side-short}
use Rattle.matcher.specs.declared.types.Lead.{Lead}
use Rattle.matcher.specs.declared.types.Lead.TheVariants as lead
use Rattle.matcher.specs.declared.types.Filled.{Filled}
use Rattle.matcher.specs.declared.types.RowText.{RowText}
use Rattle.matcher.specs.declared.types.RowText.TheVariants as row-text
use Rattle.matcher.specs.Matching.{led_text, lead_bytes, lowers, body_bytes, filled_text, row_text_meant, RowTextWithin, FilledWithin}
use Rattle.matcher.proofs.Leads.{led-pieces, body-length, lead-short}
use Rattle.row_text.specs.Leads.{row_text_most}

-- ---- how many bytes

-- the bytes that are led, by whether they stand in lower case
module _ (l : Lead) (t : Text) (r : Bool) (er : r ≡ lowers l) where
  pub body-lower : r ≡ true → lower t ≡ body_bytes l t
  body-lower e = go l (sym er ∙ e)
    where
      go : (l : Lead) → lowers l ≡ true → lower t ≡ body_bytes l t
      go lead.AsIs h = absurd (false≢true h)
      go lead.Refs h = absurd (false≢true h)
      go lead.Heads h = absurd (false≢true h)
      go lead.HeadsDigits h = refl
      go lead.Digits h = refl

  pub body-plain : r ≡ false → t ≡ body_bytes l t
  body-plain e = go l (sym er ∙ e)
    where
      go : (l : Lead) → lowers l ≡ false → t ≡ body_bytes l t
      go lead.AsIs h = refl
      go lead.Refs h = refl
      go lead.Heads h = refl
      go lead.HeadsDigits h = absurd (false≢true (sym h))
      go lead.Digits h = absurd (false≢true (sym h))

-- what leads and a side, as they are lent
module _ (specs : Text) (l : Lead) (s : Side) (b u : Text) (eb : b ≡ lead_bytes l) (eu : u ≡ side_text specs s) where
  -- a side that is led has as many bytes as both
  led-length : length b + length u ≡ length (led_text l (side_text specs s))
  led-length = rw (eb, eu, ← led-pieces l (side_text specs s)) (omega (arith, length-append (lead_bytes l) (body_bytes l (side_text specs s)), body-length l (side_text specs s)))

  pub led-size : (name : Text) (m : RowText) → m ≡ row-text.Led l s → length b + length u ≡ length (or_empty (row_text_meant specs name m))
  led-size name m is = rw is led-length

  module _ (w : Within (length specs) s) (few : length specs ≤ spec_list_bytes) where
    -- which are not many
    pub led-most : length b + length u ≤ row_text_most
    led-most = omega (arith, ap length eb, ap length eu, lead-short l, side-short specs s w)

    -- so a machine's number holds them
    pub led-fits : Fits w64 (length b + length u)
    led-fits = omega (arith, ap length eb, ap length eu, lead-short l, side-short specs s w)

  -- a side is written right after what leads it
  module _ (d : Text) (at : ℕ) (fits : at + length (led_text l (side_text specs s)) ≤ length d) where
    led-both : at + length (b ++ body_bytes l u) ≤ length d
    led-both = rw (eb, eu, led-pieces l (side_text specs s)) fits

    pub led-first : at + length b ≤ length d
    led-first = pair-first d at b (body_bytes l u) led-both

    module _ (o : Text) (i : ℕ) (eo : o ≡ splice d at b) (ei : i ≡ at + length b) where
      pub led-second : i + length u ≤ length o
      led-second = rw (← body-length l u) (pair-second d at b (body_bytes l u) led-both o i eo ei)

      module _ (v : Text) (ev : v ≡ body_bytes l u) where
        whole : b ++ v ≡ led_text l (side_text specs s)
        whole = rw (ev, eb, eu) (led-pieces l (side_text specs s))

        room : at + length (b ++ v) ≤ length d
        room = rw ev led-both

        pub led-put : (p : Text) → p ≡ splice o i v → p ≡ splice d at (led_text l (side_text specs s))
        led-put p e = rw (← whole) (pair_put d at b v room o i eo ei p e)

        pub led-end : (j : ℕ) → j ≡ i + length v → j ≡ at + length (led_text l (side_text specs s))
        led-end j e = rw (← whole) (pair_end d at b v room o i eo ei j e)

-- the arms of a `match` on what a match makes
module _ (specs name : Text) (m : RowText) where
  module _ (is : m ≡ row-text.Name) where
    pub name-size : length name ≡ length (or_empty (row_text_meant specs name m))
    name-size = rw is

    pub name-text : part_at name 0 (length name) ≡ or_empty (row_text_meant specs name m)
    name-text = rw is (take_all (length name) name (omega arith))

  pub nothing-text : m ≡ row-text.Absent → [] ≡ or_empty (row_text_meant specs name m)
  nothing-text is = rw is

  module _ (l : Lead) (s : Side) (is : m ≡ row-text.Led l s) where
    -- a side that is led stands within the list
    pub made-led-within : (len name_len : ℕ) → RowTextWithin len name_len m → Within len s
    made-led-within len name_len h = rw is at h

    pub made-led-text : led_text l (side_text specs s) ≡ or_empty (row_text_meant specs name m)
    made-led-text = rw is

  module _ (f : Filled) (is : m ≡ row-text.Filled f) where
    -- so does a pattern that is filled
    pub made-filled-within : (len name_len : ℕ) → RowTextWithin len name_len m → FilledWithin len name_len f
    made-filled-within len name_len h = rw is at h

    pub made-filled-text : filled_text specs name f ≡ or_empty (row_text_meant specs name m)
    made-filled-text = rw is

    module _ (w : RowTextWithin (length specs) (length name) m) where
      inside : FilledWithin (length specs) (length name) f
      inside = made-filled-within (length specs) (length name) w

      -- its parts are not many bytes
      pub filled-most : length specs ≤ spec_list_bytes → length name ≤ name_bytes → f.start_len + f.len + f.end_len ≤ row_text_most
      filled-most h k = omega (arith, inside.start-within, inside.capture-within, inside.end-within)

      pub two-fit : length specs ≤ spec_list_bytes → length name ≤ name_bytes → Fits w64 (f.start_len + f.len)
      two-fit h k = omega (arith, inside.start-within, inside.capture-within)

      pub three-fit : length specs ≤ spec_list_bytes → length name ≤ name_bytes → Fits w64 (f.start_len + f.len + f.end_len)
      three-fit h k = omega (arith, inside.start-within, inside.capture-within, inside.end-within)

      -- it has the bytes of its three parts
      pub made-filled-size : f.start_len + f.len + f.end_len ≡ length (or_empty (row_text_meant specs name m))
      made-filled-size =
          let a = part_at specs f.start f.start_len in
          let b = part_at name f.from f.len in
          let c = part_at specs f.end f.end_len in
          let p = part_length specs f.start f.start_len inside.start-within in
          let q = part_length name f.from f.len inside.capture-within in
          let t = part_length specs f.end f.end_len inside.end-within in
          let n : f.start_len + f.len + f.end_len ≡ length (filled_text specs name f) = omega (arith, length-append a (b ++ c), length-append b c) in
          n ∙ ap length made-filled-text

-- ---- writing

-- one text is another: its room, its bytes and its end are
module _ (w v : Text) (at : ℕ) where
  pub room_as : (d : Text) → at + length v ≤ length d → w ≡ v → at + length w ≤ length d
  room_as d h e = rw e h

  pub put_as : (d o : Text) → o ≡ splice d at w → w ≡ v → o ≡ splice d at v
  put_as d o h e = rw e at h

  pub end-as : (r : ℕ) → r ≡ at + length w → w ≡ v → r ≡ at + length v
  end-as r h e = rw e at h

-- nothing is written
pub none-put : (d : Text) (at : ℕ) (v : Text) → [] ≡ v → d ≡ splice d at v
none-put d at v e = rw (← e) (sym (splice-none d at))

pub none_end : (at : ℕ) (v : Text) → [] ≡ v → at ≡ at + length v
none_end at v e = rw (← e) (sym (add-zero at))

-- a part of no bytes is nothing
pub no-part-put : (d : Text) (at : ℕ) (s : Text) (from n : ℕ) → n ≡ 0 → d ≡ splice d at (part_at s from n)
no-part-put d at s from n e = rw e (sym (splice-none d at))

pub no-part-end : (at : ℕ) (s : Text) (from n : ℕ) → n ≡ 0 → at ≡ at + length (part_at s from n)
no-part-end at s from n e = rw e (sym (add-zero at))
