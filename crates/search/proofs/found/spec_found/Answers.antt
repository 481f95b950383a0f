-- The names are searched with the matcher of the spec and its filter, or none passes and nothing is found.
use Rattle.search.proofs.Finding.{matcher-room, matcher-ready, spec-few, stopped-measured, stopped-noted, spec-measured, spec-noted}
use borrow.Author.Rules.{rules}
use Rattle.search.proofs.found.spec_found.Goals as goal

pub matcher_at-m-requires : goal.matcher_at-m-requires
matcher_at-m-requires g c = search matcher-room

pub filter-f-requires : goal.filter-f-requires
filter-f-requires g c = search matcher-ready

pub returns-then-f : goal.returns-then-f
returns-then-f g c = (search (spec-measured, stopped-measured), search rules, search (spec-noted, stopped-noted))

pub names_found-requires : goal.names_found-requires
names_found-requires g c = (search matcher-ready, search rules, search spec-few, search rules, search rules, search rules)

pub returns : goal.returns
returns g c = (search spec-measured, search rules, search spec-noted)
