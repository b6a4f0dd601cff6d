-- Paths compared number by number, lists of lines that rise, and counts of lines.
use Rattle.std.proofs.Common.{◌≡◌, ℕ, ◌+◌, ◌<◌, ◌≤◌, Bool, true, false, ◌&&◌, ◌||◌, ◌==◌, nat_lt, List, [], ◌∷◌, ◌++◌, refl, sym, ap, ◌∙◌, arith}
use Rattle.std.specs.Prelude.{count_by}
use Rattle.std.specs.List.{AllByRecursion as Each}
use Rattle.std.proofs.lemmas.Bool.{eq-eqb, le-ltb, lt-ltb, ne_eqb}
use Rattle.std.proofs.lemmas.Bool.Decides.{nat_tests}
use Rattle.std.proofs.lemmas.List.Sums.{sum_by-append, sum_by-cons}
use Rattle.moos_io.proofs.Lists.{each_append, each_true, true_each}
use Rattle.ivp_func.proofs.Counting.{one_if}
use Rattle.ivp_cert.specs.declared.cert.Line.{Line}
use Rattle.ivp_cert.specs.Certificates.{begins, is_before, Rise}

-- what two paths begin with in common doesn't count
pub begins_append : (path a b : List ℕ) → begins (path ++ a) (path ++ b) ≡ begins a b
begins_append [] a b = refl
begins_append (n ∷ path) a b = rw (eq-eqb n n refl) (begins_append path a b)

pub before_append : (path a b : List ℕ) → is_before (path ++ a) (path ++ b) ≡ is_before a b
before_append [] a b = refl
before_append (n ∷ path) a b = rw (le-ltb n n (omega arith), eq-eqb n n refl) (before_append path a b)

-- paths that part at a number
pub parted : (path a b : List ℕ) (m n : ℕ) → (m ≡ n → ⊥) → begins (path ++ m ∷ a) (path ++ n ∷ b) ≡ false
parted path a b m n h = begins_append path (m ∷ a) (n ∷ b) ∙ rw (ne_eqb m n h) refl

pub less_before : (path a b : List ℕ) (m n : ℕ) → m < n → is_before (path ++ m ∷ a) (path ++ n ∷ b) ≡ true
less_before path a b m n h = before_append path (m ∷ a) (n ∷ b) ∙ rw (lt-ltb m n h) refl

pub before_less : (path a b : List ℕ) (m n : ℕ) → is_before (path ++ m ∷ a) (path ++ n ∷ b) ≡ true → m ≤ n
before_less path a b m n h = by (nat_lt m n) (m == n) refl refl (sym (before_append path (m ∷ a) (n ∷ b)) ∙ h)
  where
    by : (s t : Bool) → nat_lt m n ≡ s → (m == n) ≡ t → (s || (t && is_before a b)) ≡ true → m ≤ n
    by true t e e' h = grind (arith, nat_tests)
    by false true e e' h = grind (arith, nat_tests)
    by false false e e' h = absurd (cc)

-- lists of lines that rise, one behind the other
abbrev pub StandsBefore : List Line → Line → Type 0
StandsBefore lines line = Each (λ (later : Line). is_before line.path later.path ≡ true) lines

pub rise_append : (xs ys : List Line) → Rise xs → Rise ys → Each (StandsBefore ys) xs → Rise (xs ++ ys)
rise_append [] ys h k cross = k
rise_append (x ∷ xs) ys h k cross = (
  true_each (λ (later : Line). is_before x.path later.path) (xs ++ ys) (each_append (λ (later : Line). is_before x.path later.path ≡ true) xs ys (each_true (λ (later : Line). is_before x.path later.path) xs h.0) cross.0),
  rise_append xs ys h.1 k cross.1,
)

pub rise_parts : (xs ys : List Line) → Rise (xs ++ ys) → Rise xs × Rise ys
rise_parts [] ys h = (tt, h)
rise_parts (x ∷ xs) ys h =
    let more = rise_parts xs ys h.1 in
    ((true_each (λ (later : Line). is_before x.path later.path) xs (first xs (each_true (λ (later : Line). is_before x.path later.path) (xs ++ ys) h.0)), more.0), more.1)
  where
    first : (zs : List Line) → StandsBefore (zs ++ ys) x → StandsBefore zs x
    first [] h = tt
    first (z ∷ zs) h = (h.0, first zs h.1)

-- how many lines have a path that begins this one
abbrev pub beginning : List ℕ → List Line → ℕ
beginning path lines = count_by (λ (line : Line). begins line.path path) lines

abbrev count_of : List ℕ → Line → ℕ
count_of path line = one_if (begins line.path path)

pub beginning_append : (path : List ℕ) (xs ys : List Line) → beginning path (xs ++ ys) ≡ beginning path xs + beginning path ys
beginning_append path xs ys = sum_by-append (count_of path) xs ys

pub beginning_cons : (path : List ℕ) (x : Line) (xs : List Line) → beginning path (x ∷ xs) ≡ one_if (begins x.path path) + beginning path xs
beginning_cons path x xs = sum_by-cons (count_of path) x xs

pub beginning_none : (path : List ℕ) (xs : List Line) → Each (λ (line : Line). begins line.path path ≡ false) xs → beginning path xs ≡ 0
beginning_none path [] h = refl
beginning_none path (x ∷ xs) h = let no = ap one_if h.0 in omega (arith, beginning_cons path x xs, beginning_none path xs h.1)

pub beginning_one : (path : List ℕ) (x : Line) → begins x.path path ≡ true → beginning path (x ∷ []) ≡ 1
beginning_one path x h = let yes = ap one_if h in omega (arith, beginning_cons path x [])
