use Rattle.std.proofs.Common.{◌≡◌, List, ℕ, [], ◌∷◌, ◌++◌, flat_map, ap, ◌∙◌}
use Rattle.std.specs.Prelude.{codes, decimal}
use Rattle.std.specs.List.{concat}
use Rattle.moos_io.proofs.BufferedWriting.{writes_as, writes_on}
use Rattle.moos_text.specs.Numbers.{unsigned_text}
use Rattle.ivp_cert.specs.Texts.{line_text, number_word}
use Rattle.ivp_cert.specs.declared.cert.Line.{Line}
use Rattle.ivp_cert.proofs.PathTexts.{line_begun}
use Rattle.ivp_cert.proofs.print.put_line.Goals as goal

-- the line, with the text of its path
whole : (prefix path : List ℕ) (line : Line) → path ≡ flat_map number_word line.path → concat (prefix ∷ codes "cut" ∷ path ∷ []) ++ concat (codes " : " ∷ unsigned_text line.sum ∷ codes " " ∷ decimal line.index ∷ codes "\n" ∷ []) ≡ line_text prefix line
whole prefix path line is =
    let rest : List ℕ = concat (codes " : " ∷ unsigned_text line.sum ∷ codes " " ∷ decimal line.index ∷ codes "\n" ∷ []) in
    ap (λ t. concat (prefix ∷ codes "cut" ∷ t ∷ []) ++ rest) is ∙ line_begun prefix (flat_map number_word line.path) rest

pub returns : goal.returns
returns g c =
    let is = c.of-path.ensures ∙ ap (flat_map number_word) c.all.ensures.all in
    writes_as (whole c.args.prefix.now c.of-path.result.now c.args.line.now is) (writes_on c.write.ensures c.put_bound.ensures)
