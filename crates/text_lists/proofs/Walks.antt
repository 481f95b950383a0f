-- The walk over the lines: what is gathered and the lines that are left make the whole. Assumes nothing.
use Prim.Native.Nat.{ℕ, zero, suc, ◌-◌, ◌<◌, ◌≤◌}
use mathlib.Core.Path.{◌≡◌, refl, sym, ap, ◌∙◌}
use mathlib.Core.List.{List, [], ◌∷◌, ◌++◌}
use native.Mathlib.Omega.{arith}
use native.Mathlib.Nat.{le_refl}
use Rattle.std.proofs.Common.{add-one}
use lib.ListN.{length, length-append}
use Rattle.std.specs.Prelude.{Some, Result, Ok, Err}
use Rattle.refusal.proofs.Numbers.{number_of-positive}
use Rattle.meaning.specs.Bytes.{Text, numbered_from}
use Rattle.meaning.specs.Limits.{spec_list_bytes, item_list_bytes}
use Rattle.meaning.specs.Number.{record_bytes}
use Rattle.promises.proofs.Reading.{records-append}
use Rattle.buffer.specs.Splice.{splice}
use Rattle.buffer.proofs.Splices.{splice-none, splice-next}
use Rattle.text_lists.specs.Line.{lines_of, Held, held_in}
use Rattle.text_lists.specs.declared.Lists.{Lists}
use Rattle.text_lists.specs.declared.RefusedLine.{RefusedLine}
use Rattle.text_lists.specs.declared.reason.Reason.{Reason}
use Rattle.text_lists.specs.declared.reason.Reason.TheVariants.{Question, Push, Unknown, Marked, Unsigned, Malformed, Unprinted}
use Rattle.text_lists.specs.Reasons.{reason_number}
use Rattle.text_lists.specs.Gather.{reason_of, specs_in, names_in, Gathering, unless_stopped, gather, gathered}
use Rattle.text_lists.specs.Growing.{reason_in, lists_after, unless_refused, Grows, LineAdds, Gathers}
use Rattle.text_lists.proofs.Growth.{refused_none}
use Rattle.text_lists.proofs.Lines.{LinesShort, left-short}
use Rattle.text_lists.proofs.Starts.{Starts, start-there, start-room, Numbered, left-numbered}

-- a buffer that was d holds the list of some texts at its start, within its limit
pub record Holding (limit : ℕ) (d o : Text) (count size : ℕ) : Type 0 where
  pub texts : List Text
  pub count-is : count ≡ length texts
  pub size_is : size ≡ length (record_bytes texts)
  pub small : size ≤ limit
  pub puts : o ≡ splice d 0 (record_bytes texts)

holding-none : (limit : ℕ) (d : Text) → Holding limit d d 0 0
unfolding record_bytes
holding-none limit d = record { texts = []; count-is = refl; size_is = refl; small = omega arith; puts = sym (splice-none d 0) }

module _ (limit : ℕ) (d o : Text) (count size : ℕ) (long : limit ≤ length d) (h : Holding limit d o count size) where
  holding-more : (new : List Text) (count₂ size₂ : ℕ) (o₂ : Text) → Grows limit new count size o count₂ size₂ o₂ → Holding limit d o₂ count₂ size₂
  holding-more new count₂ size₂ o₂ g = record {
    texts = h.texts ++ new;
    count-is = omega (arith, g.count-is, h.count-is, length-append h.texts new);
    size_is = omega (arith, g.size_is, h.size_is, ap length (records-append h.texts new), length-append (record_bytes h.texts) (record_bytes new));
    small = g.small;
    puts = g.puts ∙ rw (h.puts, records-append h.texts new) (splice-next d 0 (record_bytes h.texts) (record_bytes new) size (omega (arith, h.size_is, h.small)) (omega (arith, h.size_is)));
  }

-- nothing new
module _ (limit : ℕ) (d o : Text) (count size : ℕ) (h : Holding limit d o count size) (new : List Text) (e : new ≡ []) (count₂ size₂ : ℕ) (o₂ : Text) (g : Grows limit new count size o count₂ size₂ o₂) where
  new-bytes : record_bytes new ≡ []
  unfolding record_bytes
  new-bytes = ap record_bytes e

  stays_put : o₂ ≡ splice d 0 (record_bytes h.texts)
  stays_put = g.puts ∙ ap (splice o size) new-bytes ∙ splice-none o size ∙ h.puts

-- what the numbered lines give, after the specs and the names so far
abbrev pub gather_left : List Text → List Text → List (ℕ × Text) → Gathering
gather_left specs names [] = record { line = 0; reason = 0; text = []; specs = specs; names = names }
gather_left specs names (l ∷ lines) =
    unless_stopped (reason_of (length specs) (length (record_bytes specs)) (length names) (length (record_bytes names)) (held_in l.1)) l.0 l.1 specs names
    (gather_left (specs ++ specs_in (held_in l.1)) (names ++ names_in (held_in l.1)) lines)

-- they give what the lines do, counted from the first
gather-numbered : (k : ℕ) (specs names lines : List Text) → gather_left specs names (numbered_from k lines) ≡ gather k specs names lines
gather-numbered k specs names [] = refl
gather-numbered k specs names (l ∷ lines) =
    rw add-one
    (ap (unless_stopped (reason_of (length specs) (length (record_bytes specs)) (length names) (length (record_bytes names)) (held_in l)) k l specs names)
    (gather-numbered (suc k) (specs ++ specs_in (held_in l)) (names ++ names_in (held_in l)) lines))

-- the lists of the lines that were taken, and the lines that are left
pub record Walked (input d₁ d₂ : Text) (lines : List (ℕ × Text)) (so : Lists) (o₁ o₂ : Text) : Type 0 where
  pub short : LinesShort (length input) lines
  pub numbered : Numbered (lines_of input) lines
  pub specs : Holding spec_list_bytes d₁ o₁ so.specs so.specs_size
  pub names : Holding item_list_bytes d₂ o₂ so.names so.names_size
  pub left : gather_left specs.texts names.texts lines ≡ gathered input

pub walked-starts : (input d₁ d₂ : Text) (lines : List (ℕ × Text)) → lines ≡ numbered_from 1 (lines_of input) → Walked input d₁ d₂ lines (record { specs = 0; specs_size = 0; names = 0; names_size = 0 }) d₁ d₂
unfolding gathered holding-none
walked-starts input d₁ d₂ lines e = record {
  short = rw e (left-short (length input) 0 input (le_refl (length input)));
  numbered = rw e (left-numbered (lines_of input) 0 (lines_of input) refl);
  specs = holding-none spec_list_bytes d₁;
  names = holding-none item_list_bytes d₂;
  left = rw e (gather-numbered 1 [] [] (lines_of input));
}

-- no reason has the number 0
some-reason : (q : Reason) → reason_number q ≡ 0 → ⊥
some-reason (Question q) e = omega (arith, number_of-positive q)
some-reason Push e = omega arith
some-reason Unknown e = omega arith
some-reason Marked e = omega arith
some-reason Unsigned e = omega arith
some-reason Malformed e = omega arith
some-reason Unprinted e = omega arith

-- a walk that stops, and one that goes on
stops : (n k : ℕ) (l : Text) (specs names : List Text) (rest : Gathering) → (n ≡ 0 → ⊥) → unless_stopped n k l specs names rest ≡ record { line = k; reason = n; text = l; specs = specs; names = names }
stops zero k l specs names rest h = absurd (h refl)
stops (suc n) k l specs names rest h = refl

goes_on : (n k : ℕ) (l : Text) (specs names : List Text) (rest whole : Gathering) → n ≡ 0 → unless_stopped n k l specs names rest ≡ whole → rest ≡ whole
goes_on n k l specs names rest whole z e = rw z at e

-- all that is new, where there is no reason
all_new : (limit n : ℕ) (l : List Text) (count size count₂ size₂ : ℕ) (o p : Text) → n ≡ 0 → Grows limit (unless_refused n l) count size o count₂ size₂ p → Grows limit l count size o count₂ size₂ p
all_new limit n l count size count₂ size₂ o p z g = rw z at g

-- a line's turn, where the lists are as long as the numbers say
turn-of : (specs names : List Text) (l : ℕ × Text) (lines : List (ℕ × Text)) (a b c d n : ℕ) → a ≡ length specs → b ≡ length (record_bytes specs) → c ≡ length names → d ≡ length (record_bytes names) → n ≡ reason_of a b c d (held_in l.1) → unless_stopped n l.0 l.1 specs names (gather_left (specs ++ specs_in (held_in l.1)) (names ++ names_in (held_in l.1)) lines) ≡ gather_left specs names (l ∷ lines)
turn-of specs names l lines a b c d n ea eb ec ed e = rw (e, ea, eb, ec, ed)

module _ (input d₁ d₂ : Text) (long₁ : spec_list_bytes ≤ length d₁) (long₂ : item_list_bytes ≤ length d₂) (lines : List (ℕ × Text)) (so : Lists) (o₁ o₂ : Text) (w : Walked input d₁ d₂ lines so o₁ o₂) where
  -- the next line
  module _ (l : ℕ × Text) (rest : List (ℕ × Text)) (e : lines ≡ l ∷ rest) where
    numbered-next : Numbered (lines_of input) (l ∷ rest)
    numbered-next = rw e at w.numbered

    -- so many lines are there
    number-within : l.0 - 1 < length (lines_of input)
    number-within =
        let p : 0 < l.0 = numbered-next.0.0 in
        let q : l.0 ≤ length (lines_of input) = numbered-next.0.1 in
        omega arith

    module _ (r : Result Lists Reason) (p₁ p₂ : Text) (adds : LineAdds (held_in l.1) so r o₁ o₂ p₁ p₂) where
      abbrev held : Held
      held = held_in l.1

      -- the whole, by this line's reason
      turn : unless_stopped (reason_in r) l.0 l.1 w.specs.texts w.names.texts (gather_left (w.specs.texts ++ specs_in held) (w.names.texts ++ names_in held) rest) ≡ gathered input
      turn =
          turn-of w.specs.texts w.names.texts l rest so.specs so.specs_size so.names so.names_size (reason_in r) w.specs.count-is w.specs.size_is w.names.count-is w.names.size_is adds.reason-is
          ∙ ap (gather_left w.specs.texts w.names.texts) (sym e)
          ∙ w.left

      -- it is refused
      pub walked_stop : (q : Reason) → r ≡ Err q → (t : RefusedLine) → t.number ≡ l.0 → t.text.now ≡ l.1 → t.reason ≡ q → Starts input (l.0 - 1) t.start → Gathers input (gathered input) d₁ d₂ p₁ p₂ (record { specs = so.specs_size; items = so.names_size; refused = Some t })
      walked_stop q f t et el eq at =
          let z = some-reason q in
          let n : reason_in r ≡ reason_number q = rw f refl in
          let z₂ : (reason_in r ≡ 0 → ⊥) = λ (k : reason_in r ≡ 0). z (sym n ∙ k) in
          let g : record { line = l.0; reason = reason_in r; text = l.1; specs = w.specs.texts; names = w.names.texts } ≡ gathered input = sym (stops (reason_in r) l.0 l.1 w.specs.texts w.names.texts _ z₂) ∙ turn in
          let s = refused_none (reason_in r) (specs_in held) z₂ in
          let m = refused_none (reason_in r) (names_in held) z₂ in
          rw (← g) (record {
            tells = record {
              line-is = et;
              reason-is = ap reason_number eq ∙ sym n;
              text-is = el;
              text-there = rw el (start-there input (l.0 - 1) t.start at number-within l.1 numbered-next.0.2);
              text-within = rw el (start-room input (l.0 - 1) t.start at number-within l.1 numbered-next.0.2);
            };
            specs-size = w.specs.size_is;
            items-size = w.names.size_is;
            specs-put = stays_put spec_list_bytes d₁ o₁ so.specs so.specs_size w.specs (unless_refused (reason_in r) (specs_in held)) s (lists_after so r).specs (lists_after so r).specs_size p₁ adds.specs-grow;
            items-put = stays_put item_list_bytes d₂ o₂ so.names so.names_size w.names (unless_refused (reason_in r) (names_in held)) m (lists_after so r).names (lists_after so r).names_size p₂ adds.names-grow;
            specs-small = w.specs.small;
            items-small = w.names.small;
          })

      -- it is not
      module _ (more : Lists) (f : r ≡ Ok more) where
        no-reason : reason_in r ≡ 0
        no-reason = rw f refl

        grown : lists_after so r ≡ more
        grown = rw f refl

        specs-grown : Grows spec_list_bytes (specs_in held) so.specs so.specs_size o₁ more.specs more.specs_size p₁
        specs-grown = rw grown at (all_new spec_list_bytes (reason_in r) (specs_in held) so.specs so.specs_size (lists_after so r).specs (lists_after so r).specs_size o₁ p₁ no-reason adds.specs-grow)

        names-grown : Grows item_list_bytes (names_in held) so.names so.names_size o₂ more.names more.names_size p₂
        names-grown = rw grown at (all_new item_list_bytes (reason_in r) (names_in held) so.names so.names_size (lists_after so r).names (lists_after so r).names_size o₂ p₂ no-reason adds.names-grow)

        specs-more : Holding spec_list_bytes d₁ p₁ more.specs more.specs_size
        specs-more = holding-more spec_list_bytes d₁ o₁ so.specs so.specs_size long₁ w.specs (specs_in held) more.specs more.specs_size p₁ specs-grown

        names_more : Holding item_list_bytes d₂ p₂ more.names more.names_size
        names_more = holding-more item_list_bytes d₂ o₂ so.names so.names_size long₂ w.names (names_in held) more.names more.names_size p₂ names-grown

        pub walked_more : Walked input d₁ d₂ rest more p₁ p₂
        unfolding specs-more names_more holding-more
        walked_more = record {
          short = let h : LinesShort (length input) (l ∷ rest) = rw e at w.short in h.1;
          numbered = numbered-next.1;
          specs = specs-more;
          names = names_more;
          left = goes_on (reason_in r) l.0 l.1 w.specs.texts w.names.texts (gather_left (w.specs.texts ++ specs_in held) (w.names.texts ++ names_in held) rest) (gathered input) no-reason turn;
        }
