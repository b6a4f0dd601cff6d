use Rattle.std.proofs.Common.{◌≡◌, true, false, ◌&&◌, [], ◌∷◌, ◌++◌, ap, subst, sym, ◌∙◌, arith}
use Rattle.std.specs.Prelude.{List, MatchOption, ℕ, Option, reverse, slice_index_or}
use Rattle.std.specs.Borrow.{Bor}
use Rattle.std.specs.Str.{str_eq_ignore_ascii_case}
use Rattle.helm_cond.specs.Conditions.{begins_with, mode_names}
use Rattle.bhv_file.specs.Paths.{above_of, parent_path, paths_of}
use Rattle.bhv_reader.proofs.Ending.{ends_above, ends_more, ends_not, ends_one}
use Rattle.bhv_reader.proofs.PathsAt.{above_less, found_path, path_top, path_up}
use Rattle.bhv_reader.proofs.parent.ends_with_parts.Goals as goal

pub returns-then-not-is_named : goal.returns-then-not-is_named
returns-then-not-is_named c =
    let decls = c.args.decls.now in
    let at = c.loop-decl.at in
    let decl = c.index-decls-at.result in
    let left = c.loop-decl.left.now in
    let last = c.cut_last.result.1.now in
    let is = c.loop-decl.invariant in
    let other : str_eq_ignore_ascii_case last decl.name ≡ false = ap (str_eq_ignore_ascii_case last) (sym c.bytes.ensures.value) ∙ sym c.is_named.ensures ∙ c.if-not-is_named.true in
    sym (is.so_far ∙ ap (begins_with (reverse (mode_names left))) (found_path decls at decl is.within c.index-decls-at.is)
    ∙ ends_not left last decl.name (parent_path (paths_of decls) (above_of at decl.parent)) c.cut_last.result.0 c.cut_last.ensures.cut other)

pub returns-in-None : goal.returns-in-None
returns-in-None c =
    let decls = c.args.decls.now in
    let at = c.loop-decl.at in
    let decl = c.index-decls-at.result in
    let left = c.loop-decl.left.now in
    let last = c.cut_last.result.1.now in
    let is = c.loop-decl.invariant in
    let named : str_eq_ignore_ascii_case last decl.name ≡ true = ap (str_eq_ignore_ascii_case last) (sym c.bytes.ensures.value) ∙ sym c.is_named.ensures ∙ c.if-not-is_named.false in
    let cut : mode_names left ≡ last ∷ [] =
    subst (λ (o : Option (Bor (List ℕ))). MatchOption o (mode_names left ≡ last ∷ []) (λ front. mode_names left ≡ mode_names front.now ++ last ∷ [])) c.in-None.is c.cut_last.ensures.cut in
    sym (is.so_far ∙ ap (begins_with (reverse (mode_names left))) (found_path decls at decl is.within c.index-decls-at.is)
    ∙ ends_one left last decl.name (parent_path (paths_of decls) (above_of at decl.parent)) cut ∙ named)

pub loop-decl-preserved : goal.loop-decl-preserved
loop-decl-preserved c =
    let decls = c.args.decls.now in
    let at = c.loop-decl.at in
    let decl = c.index-decls-at.result in
    let left = c.loop-decl.left.now in
    let last = c.cut_last.result.1.now in
    let front = c.in-Some.front.now in
    let parent = c.in-Some-above.parent in
    let is = c.loop-decl.invariant in
    let named : str_eq_ignore_ascii_case last decl.name ≡ true = ap (str_eq_ignore_ascii_case last) (sym c.bytes.ensures.value) ∙ sym c.is_named.ensures ∙ c.if-not-is_named.false in
    let cut : mode_names left ≡ mode_names front ++ last ∷ [] =
    subst (λ (o : Option (Bor (List ℕ))). MatchOption o (mode_names left ≡ last ∷ []) (λ front. mode_names left ≡ mode_names front.now ++ last ∷ [])) c.in-Some.is c.cut_last.ensures.cut in
    let less = above_less at parent decl.parent c.in-Some-above.ensures in
    let above = slice_index_or (paths_of decls) parent [] in
    let up = path_up decls at decl parent is.within c.index-decls-at.is c.in-Some-above.ensures in
    record {
      within = omega (arith, less, is.within);
      so_far = is.so_far ∙ ap (begins_with (reverse (mode_names left))) up ∙ ends_more left front last decl.name above cut ∙ ap (λ b. b && begins_with (reverse (mode_names front)) above) named;
    }

pub returns-in-None-above : goal.returns-in-None-above
returns-in-None-above c =
    let decls = c.args.decls.now in
    let at = c.loop-decl.at in
    let decl = c.index-decls-at.result in
    let left = c.loop-decl.left.now in
    let last = c.cut_last.result.1.now in
    let front = c.in-Some.front.now in
    let is = c.loop-decl.invariant in
    let named : str_eq_ignore_ascii_case last decl.name ≡ true = ap (str_eq_ignore_ascii_case last) (sym c.bytes.ensures.value) ∙ sym c.is_named.ensures ∙ c.if-not-is_named.false in
    let cut : mode_names left ≡ mode_names front ++ last ∷ [] =
    subst (λ (o : Option (Bor (List ℕ))). MatchOption o (mode_names left ≡ last ∷ []) (λ front. mode_names left ≡ mode_names front.now ++ last ∷ [])) c.in-Some.is c.cut_last.ensures.cut in
    sym (is.so_far ∙ ap (begins_with (reverse (mode_names left))) (path_top decls at decl is.within c.index-decls-at.is c.in-None-above.ensures)
    ∙ ends_more left front last decl.name [] cut ∙ ap (λ b. b && begins_with (reverse (mode_names front)) []) named ∙ ends_above front)
