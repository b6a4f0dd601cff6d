-- Two texts that go on with a byte that stands in neither are told apart at that byte.
use Rattle.std.proofs.Common.{◌≡◌, ◌≢◌, ℕ, Bool, true, false, List, [], ◌∷◌, ◌++◌, drop, get_or, refl, ap, sym, ◌∙◌}
use Rattle.std.specs.List.{list_all, AllByRecursion as Each}
use Rattle.std.proofs.lemmas.Bool.{false≢true}
use Rattle.moos_io.proofs.Lists.{each_true, each_weaker}

-- the byte doesn't stand in the text
abbrev pub Lacks : ℕ → List ℕ → Type 0
Lacks byte text = Each (λ it. it ≢ byte) text

-- bytes that pass a test that the byte doesn't pass
pub is_other : (p : ℕ → Bool) (byte : ℕ) → p byte ≡ false → (it : ℕ) → p it ≡ true → it ≢ byte
is_other p byte fails it passes same = false≢true (sym fails ∙ ap p (sym same) ∙ passes)

pub lacks_all : (p : ℕ → Bool) (byte : ℕ) (text : List ℕ) → p byte ≡ false → list_all p text ≡ true → Lacks byte text
lacks_all p byte text fails passes = each_weaker (λ it. p it ≡ true) (λ it. it ≢ byte) (is_other p byte fails) text (each_true p text passes)

pub cut_at : (byte : ℕ) (one other after later : List ℕ) → Lacks byte one → Lacks byte other → one ++ byte ∷ after ≡ other ++ byte ∷ later → (one ≡ other) × (after ≡ later)
cut_at byte [] [] after later h k e = (refl, ap (drop 1) e)
cut_at byte [] (y ∷ other) after later h k e = absurd (k.0 (sym (ap (λ l. get_or l 0 0) e)))
cut_at byte (x ∷ one) [] after later h k e = absurd (h.0 (ap (λ l. get_or l 0 0) e))
cut_at byte (x ∷ one) (y ∷ other) after later h k e =
    let rest = cut_at byte one other after later h.1 k.1 (ap (drop 1) e) in
    (λ i. ap (λ l. get_or l 0 0) e i ∷ rest.0 i, rest.1)
