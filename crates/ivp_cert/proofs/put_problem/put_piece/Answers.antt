use Rattle.std.proofs.Common.{◌*◌, ℕ, List, ap, flat_map, take}
use Rattle.moos_io.proofs.BufferedWriting.{writes_as, writes_on}
use Rattle.ivp_cert.specs.Texts.{number_word}
use Rattle.ivp_cert.proofs.put_problem.put_piece.Goals as goal

pub returns : goal.returns
returns g c =
    let same = ap (λ (ends : List ℕ). flat_map number_word (take (2 * c.args.axes) ends)) c.ends_of.ensures in
    writes_on c.write.ensures (writes_on (writes_as same c.put_numbers.ensures) (writes_on c.put_integer.ensures (writes_on c.put_integers.ensures c.write-2.ensures)))
