-- The fields of the first i lines stand, and each turn puts the next one in behind them.
use Rattle.std.proofs.Common.{◌≡◌, ◌≤◌, length, refl, ap, ◌∙◌, arith, rules, below_more}
use Rattle.std.proofs.lemmas.List.{take_all}
use Rattle.header.specs.Header.{addresses, read_header}
use Rattle.header.proofs.Fields.{put_more, written_from}
use Rattle.header.proofs.Back.{reads_back}
use Rattle.header.proofs.encode.Goals as goal

pub loop-i-init : goal.loop-i-init
unfolding addresses
loop-i-init c = (refl, λ k h. absurd (omega arith))

pub loop-i-preserved : goal.loop-i-preserved
loop-i-preserved c = (
  put_more c.loop-i.bytes _ c.args.header.now.lines c.loop-i.i _ _ (omega arith) (omega arith) c.from-address.ensures
      (c.copy_from_slice.ensures.after ∙ c.to_le_bytes.ensures) c.loop-i.invariant.0,
  below_more _ _ c.loop-i.invariant.1 (search rules),
)

pub returns : goal.returns
returns c =
    let e : c.loop-i.i ≡ 7 = omega arith in
    let seven : length c.args.header.now.lines ≤ 7 = omega arith in
    let fields = rw (e, take_all 7 c.args.header.now.lines seven) at c.loop-i.invariant.0 in
    let done = written_from c.args.header.now c.loop-i.bytes _ _ c.loop-i-test.array_long fields c.copy_from_slice-2.ensures.after (c.copy_from_slice-3.ensures.after ∙ c.to_le_bytes-2.ensures) in
    record { written = done; back = λ s k. ap (read_header s) done ∙ reads_back s c.args.header.now k (λ i h. c.loop-i.invariant.1 i (omega arith)) }
