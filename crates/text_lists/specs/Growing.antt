-- Two lists that grow in their buffers, line by line.
use Rattle.std.specs.Prelude.{ℕ, zero, suc, ◌+◌, ◌≤◌, ◌≡◌, List, [], ◌∷◌, length, take, drop, Option, Some, None, Result, Ok, Err}
use Rattle.meaning.specs.Bytes.{Text}
use Rattle.meaning.specs.Limits.{spec_list_bytes, item_list_bytes}
use Rattle.meaning.specs.Number.{record_bytes}
use Rattle.buffer.specs.Splice.{splice}
use Rattle.print.specs.Unshown.{unshown}
use Rattle.text_lists.specs.Line.{Held}
use Rattle.text_lists.specs.declared.Lists.{Lists}
use Rattle.text_lists.specs.declared.Gathered.{Gathered}
use Rattle.text_lists.specs.declared.RefusedLine.{RefusedLine}
use Rattle.text_lists.specs.declared.reason.Reason.{Reason}
use Rattle.text_lists.specs.Reasons.{reason_number}
use Rattle.text_lists.specs.Gather.{spec_reason, name_reason, unshown_reason, unshown_names, reason_of, specs_in, names_in, Gathering}

-- a list within its limit, and a buffer that a list at its limit fits
pub record Room (limit size : ℕ) (buffer : Text) : Type 0 where
  pub small : size ≤ limit
  pub long : limit ≤ length buffer

-- the number of the reason, 0 where there is none
abbrev pub reason_in : Result Lists Reason → ℕ
reason_in (Ok so) = 0
reason_in (Err r) = reason_number r

-- the lists after a step, those before it where it is refused
abbrev pub lists_after : Lists → Result Lists Reason → Lists
lists_after so (Ok more) = more
lists_after so (Err r) = so

-- what is added unless there is a reason not to
abbrev pub unless_refused : ℕ → List Text → List Text
unless_refused zero l = l
unless_refused (suc n) l = []

-- a list grew by some texts, from its end on, within its limit
pub record Grows (limit : ℕ) (new : List Text) (count size : ℕ) (entry : Text) (count_after size_after : ℕ) (exit : Text) : Type 0 where
  pub count-is : count_after ≡ count + length new
  pub size_is : size_after ≡ size + length (record_bytes new)
  pub small : size_after ≤ limit
  pub puts : exit ≡ splice entry size (record_bytes new)

-- a spec was added or refused, and the names stay
pub record SpecAdds (t : Text) (so : Lists) (r : Result Lists Reason) (entry exit : Text) : Type 0 where
  pub reason-is : reason_in r ≡ spec_reason so.specs so.specs_size t
  pub grows : Grows spec_list_bytes (unless_refused (reason_in r) (t ∷ [])) so.specs so.specs_size entry (lists_after so r).specs (lists_after so r).specs_size exit
  pub names-stay : (lists_after so r).names ≡ so.names
  pub bytes-stay : (lists_after so r).names_size ≡ so.names_size

-- names were added, or refused for a reason, and the specs stay
pub record NamesAdd (n : ℕ) (new : List Text) (so : Lists) (r : Result Lists Reason) (entry exit : Text) : Type 0 where
  pub reason-is : reason_in r ≡ n
  pub grows : Grows item_list_bytes (unless_refused (reason_in r) new) so.names so.names_size entry (lists_after so r).names (lists_after so r).names_size exit
  pub specs-stay : (lists_after so r).specs ≡ so.specs
  pub bytes-stay : (lists_after so r).specs_size ≡ so.specs_size

-- a name was
abbrev pub NameAdds : Text → Lists → Result Lists Reason → Text → Text → Type 0
NameAdds t so r entry exit = NamesAdd (name_reason so.names so.names_size t) (t ∷ []) so r entry exit

-- a name as a listing shows it was
abbrev pub ShownAdds : Text → Lists → Result Lists Reason → Text → Text → Type 0
ShownAdds u so r entry exit = NamesAdd (unshown_reason so.names so.names_size u (unshown u)) (unshown_names (unshown u)) so r entry exit

-- what a line holds was added or refused
pub record LineAdds (h : Held) (so : Lists) (r : Result Lists Reason) (specs items specs_after items_after : Text) : Type 0 where
  pub reason-is : reason_in r ≡ reason_of so.specs so.specs_size so.names so.names_size h
  pub specs-grow : Grows spec_list_bytes (unless_refused (reason_in r) (specs_in h)) so.specs so.specs_size specs (lists_after so r).specs (lists_after so r).specs_size specs_after
  pub names-grow : Grows item_list_bytes (unless_refused (reason_in r) (names_in h)) so.names so.names_size items (lists_after so r).names (lists_after so r).names_size items_after

-- the refused line is that which was gathered, and it stands in the input where it is said to begin
pub record TellsRefused (input : Text) (g : Gathering) (l : RefusedLine) : Type 0 where
  pub line-is : l.number ≡ g.line
  pub reason-is : reason_number l.reason ≡ g.reason
  pub text-is : l.text.now ≡ g.text
  pub text-there : take (length l.text.now) (drop l.start input) ≡ g.text
  pub text-within : l.start + length l.text.now ≤ length input

-- no line is refused
pub record TellsNone (g : Gathering) : Type 0 where
  pub line-is : g.line ≡ 0
  pub reason-is : g.reason ≡ 0
  pub text-is : g.text ≡ []

-- what is told of the refused line, if there is one
abbrev pub Tells : Text → Gathering → Option RefusedLine → Type 0
Tells input g (Some l) = TellsRefused input g l
Tells input g None = TellsNone g

-- the numbers say what was gathered, the refused line is told, and the buffers hold the two lists at their start, with nothing else written
pub record Gathers (input : Text) (g : Gathering) (specs items specs_after items_after : Text) (r : Gathered) : Type 0 where
  pub tells : Tells input g r.refused
  pub specs-size : r.specs ≡ length (record_bytes g.specs)
  pub items-size : r.items ≡ length (record_bytes g.names)
  pub specs-put : specs_after ≡ splice specs 0 (record_bytes g.specs)
  pub items-put : items_after ≡ splice items 0 (record_bytes g.names)
  pub specs-small : r.specs ≤ spec_list_bytes
  pub items-small : r.items ≤ item_list_bytes
