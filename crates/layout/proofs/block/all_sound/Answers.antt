use Rattle.layout.proofs.Blocks.{walk_more, walk_unsound, walk_shared, walk_end}
use Rattle.layout.proofs.block.all_sound.Goals as goal
use Rattle.layout.proofs.block.all_sound.Goals.{then-not-is_sound-via-then-not-is_sound, then-not-is_sound-via-else-not-is_sound+then-taken-held-ne0}

pub returns-then-not-is_sound : goal.returns-then-not-is_sound
returns-then-not-is_sound c =
    elim c.then-not-is_sound.branch [
      | then-not-is_sound-via-then-not-is_sound w ↦
          walk_unsound c.args.sizes.now c.loop-held.taken c.args.entries.now c.loop-held.held-index _ _ c.loop-held.invariant
          c.loop-held-test.true w.if-not-is_sound.ensures
      | then-not-is_sound-via-else-not-is_sound+then-taken-held-ne0 w ↦
          walk_shared c.args.sizes.now c.loop-held.taken c.args.entries.now c.loop-held.held-index _ _ c.loop-held.invariant
          c.loop-held-test.true w.if-taken-held-ne0.true
    ]

pub loop-held-preserved : goal.loop-held-preserved
loop-held-preserved c =
    walk_more c.args.sizes.now c.loop-held.taken c.args.entries.now c.loop-held.held-index _ _ c.loop-held.invariant
    c.loop-held-test.true c.if-not-is_sound.ensures c.if-taken-held-ne0.false

pub returns : goal.returns
returns c = walk_end c.args.sizes.now c.loop-held.taken c.args.entries.now c.loop-held.held-index _ c.loop-held-test.false c.loop-held.invariant
