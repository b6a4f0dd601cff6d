use Rattle.std.proofs.Common.{◌<◌, length, sym}
use Rattle.moos_text.proofs.Judging.{at_good}
use Rattle.bhv_file.specs.Paths.{the_one, meant_by}
use Rattle.bhv_reader.proofs.Valid.{meant_below}
use Rattle.bhv_reader.proofs.mode.parent_behind.Goals as goal

pub path_len-requires : goal.path_len-requires
path_len-requires c =
    let decls = c.all-decls.result.now in
    let literal = c.in-Some.literal.now in
    at_good (λ number. number < length decls) (the_one (meant_by decls literal)) c.in_ok-number.number (meant_below decls literal) (sym c.in_ok-number.ensures)
