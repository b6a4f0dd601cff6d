-- A text is neither too long nor has it a byte that none can hold.
use Rattle.std.proofs.Common.{◌∙◌, arith, ap, length, nat_le, sym}
use Rattle.std.specs.Prelude.{Err, is_none}
use Rattle.std.proofs.lemmas.Bool.{and_parts, leb-true}
use Rattle.moos_post.specs.Words.{control_place}
use Rattle.mission_maker.proofs.lines.text_of.Goals as goal

pub unreachable-requires : goal.unreachable-requires
unreachable-requires c =
    let long = (c.in-Err-TooLong.ensures.long c.in-Err-TooLong.field-0-0).0 (ap Err c.in-Err-TooLong.field-0-is) in
    let parts = and_parts (nat_le (length c.args.bytes.now) 4096) (is_none (control_place c.args.bytes.now)) c.requires in
    let short = leb-true (length c.args.bytes.now) 4096 parts.0 in
    omega (arith, long.0, long.1, short)

pub unreachable-requires-in-Err-BadByte : goal.unreachable-requires-in-Err-BadByte
unreachable-requires-in-Err-BadByte c =
    let bad = (c.in-Err-BadByte.ensures.bad c.in-Err-BadByte.field-0-0).0 (ap Err c.in-Err-BadByte.field-0-is) in
    let parts = and_parts (nat_le (length c.args.bytes.now) 4096) (is_none (control_place c.args.bytes.now)) c.requires in
    let none = sym (ap is_none bad.1) ∙ parts.1 in
    cc none
