-- What a spec list and an item list print. Assumes nothing.
use mathlib.Core.Path.{◌≡◌, refl, sym, ap, ◌∙◌}
use mathlib.Core.List.{List, [], ◌∷◌, ◌++◌}
use mathlib.Core.Option.{Option, none, some}
use Prim.Native.Nat.{ℕ, ◌≤◌, ◌<◌}
use native.Mathlib.Omega.{arith}
use borrow.Author.Tests.{lt-leb}
use lib.ListN.{length, take, length-append}
use Rattle.meaning.specs.Bytes.{Text}
use Rattle.meaning.specs.Limits.{spec_count, program_bytes}
use Rattle.meaning.specs.Spec.{Answer, accepted, refused, Spec}
use Rattle.meaning.specs.Lists.{read_specs, read_items}
use Rattle.meaning.specs.Rows.{Row, row_list_of, read_rows}
use Rattle.meaning.specs.Listing.{forward_rows}
use Rattle.meaning.specs.Buffers.{MeetsOne}
use Rattle.meaning.specs.Entries.{match_lhs}
use Rattle.meaning.specs.Deliveries.{header, within_limit, printed, output}
use Rattle.promises.proofs.Members.{group-count}
use Rattle.promises.proofs.ReadBack.{forward-sound, forward-back}
use Rattle.buffer.specs.Splice.{splice}
use Rattle.list.proofs.Refusals.{specs-refusal, items-refusal}
use Rattle.row_list.specs.Lists.{rows_of}
use Rattle.deliver.specs.Printed.{Prints, fetch_rows_in, row_lines, printed_rows, Listed}
use Rattle.deliver.proofs.Longer.{rows_long}
use Rattle.deliver.proofs.Told.{refused-told, told-fits, told-short, told-seventeen, told-length, told-within, told_text}

-- lists that are read
module _ (specs items : Text) (group : List Spec) (names : List Text) (es : read_specs 0 specs ≡ accepted group) (ei : read_items items ≡ accepted names) where
  lists-answer : match_lhs 0 specs items ≡ accepted (some (row_list_of (forward_rows group names)) ∷ [])
  unfolding match_lhs
  lists-answer = rw (es, ei)

  lists-print : output (printed specs items) ≡ output (within_limit (header ++ row_lines (forward_rows group names)))
  unfolding printed row_lines
  lists-print = rw (es, ei)

  -- a row list that outgrows its buffer is too long in print
  lists-long : program_bytes < length (row_list_of (forward_rows group names)) → output (printed specs items) ≡ output (refused 17 none)
  lists-long h =
      let g = rows_long (forward_rows group names) (λ r m. (forward-sound group names r m).kind_fits) in
      lists-print ∙ rw (lt-leb (length (header ++ row_lines (forward_rows group names))) program_bytes (omega (arith, length-append header (row_lines (forward_rows group names)))))

  -- any other is read back
  module _ (h : length (row_list_of (forward_rows group names)) ≤ program_bytes) where
    back : read_rows spec_count (row_list_of (forward_rows group names)) ≡ accepted (forward_rows group names)
    back = forward-back specs items group names es ei (omega arith) spec_count (group-count 0 specs group es)

    rows_are : fetch_rows_in (row_list_of (forward_rows group names)) ≡ forward_rows group names
    unfolding fetch_rows_in
    rows_are = ap rows_of back

    lists-listed : Listed (row_list_of (forward_rows group names))
    lists-listed = record { short = h; reads = back ∙ ap (λ (l : List Row). accepted l) (sym rows_are) }

    lists-rows : output (printed specs items) ≡ printed_rows (row_list_of (forward_rows group names))
    unfolding printed_rows
    lists-rows = lists-print ∙ ap (λ (l : List Row). output (within_limit (header ++ row_lines l))) (sym rows_are)

-- what the listing told
module _ (specs items rows : Text) (size : ℕ) where
  -- its row list is to be printed
  record Ready : Type 0 where
    pub within : size ≤ length rows
    pub sized : size ≡ length (take size rows)
    pub listed : Listed (take size rows)
    pub prints : output (printed specs items) ≡ printed_rows (take size rows)

module _ (specs items entry exit : Text) (n q size : ℕ) (m : MeetsOne (match_lhs 0 specs items) entry exit n q size) (long : length entry ≡ program_bytes) where
  -- a spec list that is refused
  specs-no : (k : ℕ) (r : Option ℕ) → read_specs 0 specs ≡ refused k r → match_lhs 0 specs items ≡ refused k r
  unfolding match_lhs
  specs-no k r e = rw e

  specs-print : (k : ℕ) (r : Option ℕ) → read_specs 0 specs ≡ refused k r → output (printed specs items) ≡ output (refused k none)
  unfolding printed
  specs-print k r e = rw e

  -- an item list that is refused
  items-no : (group : List Spec) → read_specs 0 specs ≡ accepted group → (k : ℕ) (r : Option ℕ) → read_items items ≡ refused k r → match_lhs 0 specs items ≡ refused k r
  unfolding match_lhs
  items-no group es k r e = rw (es, e)

  items-print : (group : List Spec) → read_specs 0 specs ≡ accepted group → (k : ℕ) (r : Option ℕ) → read_items items ≡ refused k r → output (printed specs items) ≡ output (refused k none)
  unfolding printed
  items-print group es k r e = rw (es, e)

  told : (k : ℕ) (r : Option ℕ) → match_lhs 0 specs items ≡ refused k r → n ≡ k
  told k r e = refused-told (match_lhs 0 specs items) entry exit n q size m k r e

  -- a number other than 0 is the refusal that is printed
  no_rows : (n ≡ 0 → ⊥) → output (printed specs items) ≡ output (refused n none)
  no_rows z = go (read_specs 0 specs) refl
    where
      names : (group : List Spec) → read_specs 0 specs ≡ accepted group → (a : Answer (List Text)) → read_items items ≡ a → output (printed specs items) ≡ output (refused n none)
      names group es (refused k r) e = items-print group es k r e ∙ ap (λ (i : ℕ). output (refused i none)) (sym (told k r (items-no group es k r e)))
      names group es (accepted l) e =
          let t = row_list_of (forward_rows group l) in
          let a = lists-answer specs items group l es e in
          let h = told-short (match_lhs 0 specs items) entry exit n q size m t a z in
          lists-long specs items group l es e (omega arith) ∙ ap (λ (i : ℕ). output (refused i none)) (sym (told-seventeen (match_lhs 0 specs items) entry exit n q size m t a z))

      go : (a : Answer (List Spec)) → read_specs 0 specs ≡ a → output (printed specs items) ≡ output (refused n none)
      go (refused k r) e = specs-print k r e ∙ ap (λ (i : ℕ). output (refused i none)) (sym (told k r (specs-no k r e)))
      go (accepted group) e = names group e (read_items items) refl

  pub refusal-prints : (n ≡ 0 → ⊥) → (d o : Text) (r : ℕ) → o ≡ splice d 0 (output (refused n none)) → r ≡ length (output (refused n none)) → Prints (output (printed specs items)) d o r
  refusal-prints z d o r p e = let h = no_rows z in record { puts = rw h p; size_is = rw h e }

  -- 0 tells that the row list stands in the buffer
  rows-ready : n ≡ 0 → Ready specs items exit size
  rows-ready z = go (read_specs 0 specs) refl
    where
      names : (group : List Spec) → read_specs 0 specs ≡ accepted group → (a : Answer (List Text)) → read_items items ≡ a → Ready specs items exit size
      names group es (refused k r) e =
          let h = items-refusal items k r e in
          let g = told k r (items-no group es k r e) in
          absurd (omega arith)
      names group es (accepted l) e =
          let t = row_list_of (forward_rows group l) in
          let a = lists-answer specs items group l es e in
          let f = told-fits (match_lhs 0 specs items) entry exit n q size m t a z in
          let s = told-length (match_lhs 0 specs items) entry exit n q size m t a z in
          let x = told_text (match_lhs 0 specs items) entry exit n q size m t a z in
          let h : length (row_list_of (forward_rows group l)) ≤ program_bytes = omega arith in
          record { within = told-within (match_lhs 0 specs items) entry exit n q size m t a z; sized = s ∙ sym (ap length x); listed = rw x (lists-listed specs items group l es e h); prints = rw x (lists-rows specs items group l es e h) }

      go : (a : Answer (List Spec)) → read_specs 0 specs ≡ a → Ready specs items exit size
      go (refused k r) e =
          let h = specs-refusal 0 specs k r e in
          let g = told k r (specs-no k r e) in
          absurd (omega arith)
      go (accepted group) e = names group e (read_items items) refl

  pub rows-within : n ≡ 0 → size ≤ length exit
  rows-within z = (rows-ready z).within

  pub rows-sized : n ≡ 0 → size ≡ length (take size exit)
  rows-sized z = (rows-ready z).sized

  pub rows-listed : n ≡ 0 → Listed (take size exit)
  rows-listed z = (rows-ready z).listed

  pub rows-print : n ≡ 0 → (d o : Text) (r : ℕ) → Prints (printed_rows (take size exit)) d o r → Prints (output (printed specs items)) d o r
  rows-print z d o r p = rw (rows-ready z).prints p
