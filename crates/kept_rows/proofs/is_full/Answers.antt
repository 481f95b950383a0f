-- `kept_rows::is_full` meets its contract: it begins `refs/`, or is `HEAD`.
use borrow.Author.Rules.{rules}
use Rattle.meaning.specs.Validation.{is_full}
use Rattle.kept_rows.proofs.is_full.Goals as goal

pub returns-then-begins : goal.returns-then-begins
unfolding is_full
returns-then-begins c = search rules

pub returns-else-begins : goal.returns-else-begins
unfolding is_full
returns-else-begins c = search rules
