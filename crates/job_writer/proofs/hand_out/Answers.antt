-- `hand_out` meets its contract: nothing is written before 18.
use Rattle.job_writer.proofs.Finishing.{no_room, front-room, handed_out}
use Rattle.job_writer.proofs.hand_out.Goals as goal

pub returns-then-out-bytes : goal.returns-then-out-bytes
returns-then-out-bytes c =
    let args = c.args in
    let if1 = c.if-out-bytes in
    no_room args.bytes.now args.out.now if1.true

pub put_text-requires : goal.put_text-requires
put_text-requires c =
    let args = c.args in
    let if1 = c.if-out-bytes in
    front-room args.bytes.now args.out.now if1.false

pub returns : goal.returns
returns c =
    let args = c.args in
    let if1 = c.if-out-bytes in
    let put-text = c.put_text in
    handed_out args.bytes.now args.out.now put-text.new.out put-text.result if1.false put-text.ensures
