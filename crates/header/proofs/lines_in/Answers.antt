-- The fields before field i are good and their lines are noted; a field that has no line is not good.
use Rattle.std.proofs.Common.{◌≢◌, ◌<◌, ltb, length, get_or, sym, ◌∙◌, arith, below_more, get_or-set_other, get_or-set_same}
use Rattle.std.proofs.lemmas.Option.{cond_some}
use Rattle.header.specs.Header.{field_good, address_at}
use Rattle.header.proofs.Fields.{address_read}
use Rattle.header.proofs.Good.{lines_read, lines_declined}
use Rattle.header.proofs.lines_in.Goals as goal

pub returns-in_err-line : goal.returns-in_err-line
returns-in_err-line c =
    let a = address_read c.args.bytes.now _ c.loop-i.i _ c.told-bytes c.as_chunks.ensures.front (omega arith) c.from_le_bytes.ensures in
    c.from_residual.ensures ∙ lines_declined _ _ c.loop-i.i (omega arith) (rw (c.from-count.ensures, a) at c.in_err-line.ensures)

pub loop-i-preserved : goal.loop-i-preserved
loop-i-preserved c =
    let a = address_read c.args.bytes.now _ c.loop-i.i _ c.told-bytes c.as_chunks.ensures.front (omega arith) c.from_le_bytes.ensures in
    let (good, line) = cond_some (field_good c.args.sizes.now (ltb c.loop-i.i (get_or c.args.bytes.now 56 0)) (address_at c.args.bytes.now c.loop-i.i)) _ _ (sym (rw (c.from-count.ensures, a) at c.in_ok-line.ensures)) in
    let here : c.loop-i.i < length c.loop-i.line-items = omega arith in (
      below_more _ _ c.loop-i.invariant.0 good,
      below_more _ _ (λ k h. let other : k ≢ c.loop-i.i = omega arith in rw get_or-set_other (c.loop-i.invariant.1 k h)) (rw get_or-set_same (sym line)),
    )

pub returns : goal.returns
returns c =
    lines_read c.args.sizes.now c.args.bytes.now _ c.loop-i-test.array_long (λ k h. c.loop-i.invariant.0 k (omega arith))
    (λ k h. c.loop-i.invariant.1 k (omega arith))
