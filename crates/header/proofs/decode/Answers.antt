-- Bytes are declined where a test fails; where none does, each field of the header is the one in the bytes.
use Rattle.std.proofs.Common.{◌≡◌, drop, sym, ◌∙◌}
use Rattle.std.specs.Int.{w32, from_le_bytes}
use Rattle.std.proofs.lemmas.Bool.{and_from, and_left, and_right}
use Rattle.std.proofs.lemmas.Option.{cond_some}
use Rattle.std.proofs.lemmas.List.{get_or-drop}
use Rattle.header.specs.Header.{fields_good, good, header_in}
use Rattle.header.proofs.Good.{failed, reads_none, reads_some}
use Rattle.header.proofs.Again.{read_again}
use Rattle.header.proofs.decode.Goals as goal

pub returns-then-not-rest_good-clause-read : goal.returns-then-not-rest_good-clause-read
unfolding good
returns-then-not-rest_good-clause-read c = reads_none c.args.sizes.now c.args.bytes.now (and_left _ _ (sym c.if-not-rest_good.ensures))

pub returns-in_err-lines-clause-read : goal.returns-in_err-lines-clause-read
unfolding good
returns-in_err-lines-clause-read c =
    c.from_residual.ensures ∙ reads_none c.args.sizes.now c.args.bytes.now (and_right _ _ (failed (fields_good c.args.sizes.now c.args.bytes.now) _ c.in_err-lines.ensures))

pub returns : goal.returns
unfolding good header_in
returns c =
    let (fields, lines) = cond_some (fields_good c.args.sizes.now c.args.bytes.now) _ _ (sym c.in_ok-lines.ensures) in
    let number : c.from_le_bytes.result ≡ from_le_bytes w32 (drop 60 c.args.bytes.now) = simp get_or-drop c.from_le_bytes.ensures in
    let read = reads_some c.args.sizes.now c.args.bytes.now _ (and_from _ _ (sym c.if-not-rest_good.ensures) fields) (cc) in
    record { read = read; again = λ h e. read_again _ _ c.told-bytes c.fits-bytes h (sym read ∙ e) }
