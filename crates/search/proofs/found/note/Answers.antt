-- A hit stands after those that were noted, or there was no room.
use Rattle.search.proofs.Notes.{note-none, note-full, note-one}
use Rattle.search.proofs.found.note.Goals as goal

pub returns-then-size-eq0 : goal.returns-then-size-eq0
returns-then-size-eq0 c = search note-none

pub returns-then-hits-count : goal.returns-then-hits-count
returns-then-hits-count c = search note-full

pub returns : goal.returns
returns c = search note-one
