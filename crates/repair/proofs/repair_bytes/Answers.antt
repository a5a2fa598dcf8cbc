-- `repair_bytes` meets its contract: it repairs what it decoded, with counts, a journal and a workspace that are empty. Assumes nothing.
use Rattle.std.proofs.Common.{rules, arith}
use Rattle.monitor.proofs.Scanning.{few_blocks, told_of_lent}
use Rattle.repair.proofs.Program.{reports}
use Rattle.repair.proofs.repair_bytes.Goals as goal

pub slice_bounds-counts-end : goal.slice_bounds-counts-end
slice_bounds-counts-end c =
    few_blocks _ _ c.block_count-blocks.ensures
    (omega (arith, c.requires.2))

pub returns : goal.returns
returns c =
    let same = c.repair_recording.ensures.memory in
    told_of_lent _ _ _ _ _ _ _ _ _ (search (rules, same.0)) (search (rules, same.1))
    (reports _ c.args.samples.now _ _ _ _ _ _ c.requires.1 c.requires.2 c.decode.ensures c.block_count-blocks.ensures
    c.repair_recording.ensures.rule)
