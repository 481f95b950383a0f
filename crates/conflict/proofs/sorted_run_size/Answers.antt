-- `conflict::sorted_run_size` meets its contract: the heads of the run sorted by source are its firsts, and the sort by place brings the run back.
use Rattle.conflict.proofs.Counting.{run-back, run-again, run-bytes, firsts-counted, firsts-measured}
use borrow.Author.Rules.{rules}
use Rattle.conflict.proofs.sorted_run_size.Goals as goal

pub counted_size-requires : goal.counted_size-requires
counted_size-requires c =
    (run-again _ _ _ _ c.requires.0 c.sort.ensures c.sort-2.ensures, search rules, search rules, search rules, firsts-counted _ _ _ _ c.requires.0 c.sort.ensures c.sort-2.ensures _ c.heads_size-heads.ensures, search rules, firsts-measured _ _ _ _ c.requires.0 c.sort.ensures c.sort-2.ensures _ c.heads_size-heads.ensures, search rules)

pub returns : goal.returns
returns c =
    (run-bytes _ _ _ _ c.requires.0 c.sort.ensures c.sort-2.ensures _ c.counted_size.ensures.0, search rules, run-back _ _ _ _ c.requires.0 c.sort.ensures c.sort-2.ensures)
