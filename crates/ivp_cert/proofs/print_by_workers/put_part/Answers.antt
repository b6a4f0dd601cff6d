use Rattle.std.proofs.Common.{◌*◌, ap, arith, flat_map}
use Rattle.std.proofs.lemmas.List.{drop_all}
use Rattle.moos_io.proofs.BufferedWriting.{leaves_all, leaves_less, leaves_none, writes_as}
use Rattle.ivp_cert.specs.Texts.{line_text}
use Rattle.ivp_cert.proofs.Chunks.{chunked}
use Rattle.ivp_cert.proofs.print_by_workers.put_part.Goals as goal

pub loop-number-init : goal.loop-number-init
loop-number-init g c = leaves_all _ _

pub loop-number-preserved : goal.loop-number-preserved
loop-number-preserved g c =
    let text = line_text c.args.prefix.now in
    leaves_less c.loop-number.invariant (chunked text c.loop-number.number c.args.lines.now) (writes_as (ap (flat_map text) c.chunk_of-chunk.ensures) c.put_chunk.ensures)

pub returns : goal.returns
returns g c =
    let text = line_text c.args.prefix.now in
    leaves_none c.loop-number.invariant (ap (flat_map text) (drop_all (c.loop-number.number * 16384) c.args.lines.now (omega (arith, c.in-Ok.ensures.many))))
