-- Who hears a variable, after a post came through some registrations and after one was made or withdrawn.
use Rattle.std.proofs.Common.{◌≡◌, ◌<◌, append-nil, ℕ, Bool, true, false, cond, ◌&&◌, ◌||◌, ◌==◌, not, List, [], ◌∷◌, ◌++◌, map, filter, None, Some, bytes_eq, refl, ap, sym, ◌∙◌, if◌then◌else◌}
use Rattle.std.specs.List.{All, list_any}
use Rattle.std.proofs.lemmas.Bool.{and_parts, both_ways, eq-eqb, eqb-true, false_from_ne_true, not_from_false}
use Rattle.std.proofs.lemmas.List.{map-append}
use Rattle.std.proofs.lemmas.List.Elements.{All-head, All-map, All-tail, All-weaker, filter-append, filter_passes}
use Rattle.std.proofs.lemmas.List.Folds.{map_fixed}
use Rattle.std.proofs.lemmas.List.Sums.{fold-append}
use Rattle.std.proofs.lemmas.Slice.Eq.{bytes_eq-Decides}
use Rattle.moos_post.specs.declared.registration.Reg.{Reg}
use Rattle.moos_post.specs.declared.value.Post.{Post}
use Rattle.moos_post.specs.Delivery.{is_due, is_new_for, is_past, last_stamp, Live, newer_stamp, with_came, without_patterns}
use Rattle.moos_post.specs.History.{name_of}
use Rattle.moos_post.specs.Patterns.{matches}
use Rattle.moos_mail.proofs.Lists.{filter-all, filter-alike, filter-map, filter-none}
use Rattle.moos_db.specs.declared.registration.Registration.{Registration}
use Rattle.moos_db.specs.Clients.{is_with_patterns, registration_of}
use Rattle.moos_db.specs.Subscriptions.{SubscriptionState, fresh_subscription, fresh_subscriptions, subscription_of, subscriptions_of, hears_due, is_new_at, is_registration, of_client}

-- a post comes through

-- who hears a variable after a post of this stamp, and a registration after a post, which comes through where this test says so
abbrev pub stamped : (SubscriptionState → Bool) → ℕ → SubscriptionState → SubscriptionState
stamped comes stamp subscription = if comes subscription then record subscription { last = Some stamp } else subscription

abbrev pub passed : (Live → Bool) → Post → Live → Live
passed comes post live = if comes live then with_came post live else live

pub stamped-client : (comes : SubscriptionState → Bool) (stamp : ℕ) (subscription : SubscriptionState) → (stamped comes stamp subscription).client ≡ subscription.client
stamped-client comes stamp subscription = by (comes subscription)
  where
    by : (b : Bool) → (if b then record subscription { last = Some stamp } else subscription).client ≡ subscription.client
    by true = refl
    by false = refl

pub of_client-stamped : (client : ℕ) (comes : SubscriptionState → Bool) (stamp : ℕ) (subscriptions : List SubscriptionState) → of_client client (map (stamped comes stamp) subscriptions) ≡ map (stamped comes stamp) (of_client client subscriptions)
of_client-stamped client comes stamp subscriptions =
    filter-map (λ subscription. subscription.client == client) (stamped comes stamp) subscriptions
    ∙ ap (λ (test : SubscriptionState → Bool). map (stamped comes stamp) (filter test subscriptions)) (λ i subscription. stamped-client comes stamp subscription i == client)

-- what was asked for, and when, stays
passed-registration : (comes : Live → Bool) (post : Post) (live : Live) → registration_of (passed comes post live) ≡ registration_of live
passed-registration comes post live = by (comes live)
  where
    by : (b : Bool) → registration_of (if b then with_came post live else live) ≡ registration_of live
    by true = refl
    by false = refl

pub registrations-passed : (comes : Live → Bool) (post : Post) (lives : List Live) → map registration_of (map (passed comes post) lives) ≡ map registration_of lives
registrations-passed comes post [] = refl
registrations-passed comes post (live ∷ lives) = λ i. passed-registration comes post live i ∷ registrations-passed comes post lives i

-- the last stamp of a variable
pub last-came : (var : List ℕ) (live : Live) (post : Post) → last_stamp var (with_came post live).came ≡ newer_stamp var (last_stamp var live.came) post
last-came var live post = fold-append (newer_stamp var) None live.came (post ∷ [])

own-passed : (b : Bool) (client : ℕ) (post : Post) (live : Live) →
    (if b then record (subscription_of client post.var live) { last = Some post.stamp } else subscription_of client post.var live) ≡ subscription_of client post.var (if b then with_came post live else live)
own-passed true client post live =
    ap (λ last. record (subscription_of client post.var live) { last = last })
    (sym (last-came post.var live post ∙ ap (λ b. if b then Some post.stamp else last_stamp post.var live.came) ((bytes_eq-Decides post.var post.var).1 refl)))
own-passed false client post live = refl

other-passed : (b : Bool) (client : ℕ) (var : List ℕ) (post : Post) (live : Live) → bytes_eq post.var var ≡ false → subscription_of client var live ≡ subscription_of client var (if b then with_came post live else live)
other-passed true client var post live apart =
    ap (λ last. record (subscription_of client var live) { last = last }) (sym (last-came var live post ∙ ap (λ b. if b then Some post.stamp else last_stamp var live.came) apart))
other-passed false client var post live apart = refl

-- where a change of the registrations and one of who hears are the same for each that matches, they are the same for all
alike-changed : (client : ℕ) (var : List ℕ) (change : SubscriptionState → SubscriptionState) (keep : Live → Live) (lives : List Live) →
    ((live : Live) → (keep live).reg ≡ live.reg) → ((live : Live) → matches live.reg.var var ≡ true → change (subscription_of client var live) ≡ subscription_of client var (keep live)) →
    map change (subscriptions_of client var lives) ≡ subscriptions_of client var (map keep lives)
alike-changed client var change keep [] same alike = refl
alike-changed client var change keep (live ∷ lives) same alike =
    through (matches live.reg.var var) refl (alike-changed client var change keep lives same alike)
    ∙ ap (λ b. map (subscription_of client var) (cond b (keep live ∷ filter (λ one. matches one.reg.var var) (map keep lives)) (filter (λ one. matches one.reg.var var) (map keep lives))))
    (ap (λ (reg : Reg). matches reg.var var) (sym (same live)))
  where
    through : (b : Bool) → matches live.reg.var var ≡ b → map change (subscriptions_of client var lives) ≡ subscriptions_of client var (map keep lives) →
        map change (map (subscription_of client var) (cond b (live ∷ filter (λ one. matches one.reg.var var) lives) (filter (λ one. matches one.reg.var var) lives)))
        ≡ map (subscription_of client var) (cond b (keep live ∷ filter (λ one. matches one.reg.var var) (map keep lives)) (filter (λ one. matches one.reg.var var) (map keep lives)))
    through true is rest = λ i. alike live is i ∷ rest i
    through false is rest = rest

-- one test says of who hears the variable what the other says of the registrations that match it, and the other says so of no other
pub record AreAsOne (client : ℕ) (var : List ℕ) (heard : SubscriptionState → Bool) (comes : Live → Bool) : Type 0 where
  pub matched : (live : Live) → matches live.reg.var var ≡ true → heard (subscription_of client var live) ≡ comes live
  pub unmatched : (live : Live) → matches live.reg.var var ≡ false → comes live ≡ false

pub due-alike : (names : List (List ℕ)) (client : ℕ) (post : Post) → AreAsOne client post.var (hears_due post.stamp (name_of names post.source)) (is_due names post)
due-alike names client post = record {
  matched = λ live is. ap (λ b. (b && matches live.reg.source (name_of names post.source)) && is_past (last_stamp post.var live.came) post.stamp live.reg.interval) (sym is);
  unmatched = λ live is. ap (λ b. (b && matches live.reg.source (name_of names post.source)) && is_past (last_stamp post.var live.came) post.stamp live.reg.interval) is;
}

-- new registrations are one client's
abbrev pub is_new_of : List (List ℕ) → ℕ → ℕ → Post → ℕ → Live → Bool
is_new_of names client made post number live = number == client && is_new_for names made post live

pub new-alike : (names : List (List ℕ)) (client made : ℕ) (post : Post) (number : ℕ) → AreAsOne number post.var (is_new_at client made (name_of names post.source)) (is_new_of names client made post number)
new-alike names client made post number = record {
  matched = λ live is. all (number == client) (live.made == made) (matches live.reg.source (name_of names post.source))
      ∙ ap (λ b. number == client && (live.made == made && (b && matches live.reg.source (name_of names post.source)))) (sym is);
  unmatched = λ live is. ap (λ b. number == client && (live.made == made && (b && matches live.reg.source (name_of names post.source)))) is ∙ none (number == client) (live.made == made);
}
  where
    all : (a b c : Bool) → ((a && b) && c) ≡ (a && (b && (true && c)))
    all true b c = refl
    all false b c = refl

    none : (a b : Bool) → (a && (b && false)) ≡ false
    none true true = refl
    none true false = refl
    none false b = refl

-- a post of the variable comes through who hears it just as through the registrations
pub subscriptions-passed : (client : ℕ) (heard : SubscriptionState → Bool) (comes : Live → Bool) (post : Post) (lives : List Live) → AreAsOne client post.var heard comes →
    map (stamped heard post.stamp) (subscriptions_of client post.var lives) ≡ subscriptions_of client post.var (map (passed comes post) lives)
subscriptions-passed client heard comes post lives alike =
    alike-changed client post.var (stamped heard post.stamp) (passed comes post) lives (λ live. ap (λ (one : Registration). one.reg) (passed-registration comes post live))
    (λ live is. ap (λ b. if b then record (subscription_of client post.var live) { last = Some post.stamp } else subscription_of client post.var live) (alike.matched live is) ∙ own-passed (comes live) client post live)

-- and another variable is heard as before
pub others-passed : (client : ℕ) (comes : Live → Bool) (post : Post) (var : List ℕ) (lives : List Live) → bytes_eq post.var var ≡ false → subscriptions_of client var (map (passed comes post) lives) ≡ subscriptions_of client var lives
others-passed client comes post var lives apart =
    sym (alike-changed client var (λ subscription. subscription) (passed comes post) lives (λ live. ap (λ (one : Registration). one.reg) (passed-registration comes post live))
    (λ live is. other-passed (comes live) client var post live apart))
    ∙ map_fixed (λ subscription. subscription) (subscriptions_of client var lives) (λ k d below. refl)

pub any-subscriptions : (client : ℕ) (var : List ℕ) (heard : SubscriptionState → Bool) (comes : Live → Bool) (lives : List Live) → AreAsOne client var heard comes → list_any heard (subscriptions_of client var lives) ≡ list_any comes lives
any-subscriptions client var heard comes [] alike = refl
any-subscriptions client var heard comes (live ∷ lives) alike = through (matches live.reg.var var) refl (any-subscriptions client var heard comes lives alike)
  where
    through : (b : Bool) → matches live.reg.var var ≡ b → list_any heard (subscriptions_of client var lives) ≡ list_any comes lives →
        list_any heard (map (subscription_of client var) (cond b (live ∷ filter (λ one. matches one.reg.var var) lives) (filter (λ one. matches one.reg.var var) lives))) ≡ (comes live || list_any comes lives)
    through true is rest = λ i. alike.matched live is i || rest i
    through false is rest = rest ∙ ap (λ b. b || list_any comes lives) (sym (alike.unmatched live is))

-- some are left

-- two tests of the same elements, one after the other
filter-commute : {X : Type 0} (one other : X → Bool) (xs : List X) → filter one (filter other xs) ≡ filter other (filter one xs)
filter-commute one other [] = refl
filter-commute one other (x ∷ xs) = through (one x) (other x) refl refl (filter-commute one other xs)
  where
    through : (a b : Bool) → one x ≡ a → other x ≡ b → filter one (filter other xs) ≡ filter other (filter one xs) →
        filter one (cond b (x ∷ filter other xs) (filter other xs)) ≡ filter other (cond a (x ∷ filter one xs) (filter one xs))
    through true true is so rest =
        ap (λ t. cond t (x ∷ filter one (filter other xs)) (filter one (filter other xs))) is
        ∙ ap (λ more. x ∷ more) rest ∙ ap (λ t. cond t (x ∷ filter other (filter one xs)) (filter other (filter one xs))) (sym so)
    through true false is so rest = rest ∙ ap (λ t. cond t (x ∷ filter other (filter one xs)) (filter other (filter one xs))) (sym so)
    through false true is so rest = ap (λ t. cond t (x ∷ filter one (filter other xs)) (filter one (filter other xs))) is ∙ rest
    through false false is so rest = rest

-- a test that all pass which passed another leaves all of them
filter-both : {X : Type 0} (one other : X → Bool) (xs : List X) → ((x : X) → other x ≡ true → one x ≡ true) → filter one (filter other xs) ≡ filter other xs
filter-both one other xs all =
    filter-alike one (λ x. true) (filter other xs) (All-weaker (λ x. other x ≡ true) (λ x. one x ≡ true) all (filter other xs) (filter_passes other xs))
    ∙ filter-all (λ x. true) (filter other xs) (λ x. refl)

-- those of a client, of which some are left
pub of_client-filter : (client : ℕ) (test : SubscriptionState → Bool) (subscriptions : List SubscriptionState) → of_client client (filter test subscriptions) ≡ filter test (of_client client subscriptions)
of_client-filter client test subscriptions = filter-commute (λ subscription. subscription.client == client) test subscriptions

-- none of another client's is withdrawn
pub others-stay : (client other : ℕ) (var source : List ℕ) (subscriptions : List SubscriptionState) → other == client ≡ false → filter (λ subscription. not (is_registration client var source subscription)) (of_client other subscriptions) ≡ of_client other subscriptions
others-stay client other var source subscriptions apart =
    filter-both (λ subscription. not (is_registration client var source subscription)) (λ subscription. subscription.client == other) subscriptions
    (λ subscription own. ap (λ b. not ((b && bytes_eq subscription.reg.var var) && bytes_eq subscription.reg.source source)) (ap (λ n. n == client) (eqb-true subscription.client other own) ∙ apart))

-- the client hears through those of its registrations that are left
pub subscriptions-withdrawn : (client : ℕ) (pattern source var : List ℕ) (lives : List Live) →
    filter (λ subscription. not (is_registration client pattern source subscription)) (subscriptions_of client var lives) ≡ subscriptions_of client var (without_patterns pattern source lives)
subscriptions-withdrawn client pattern source var lives =
    filter-map (λ subscription. not (is_registration client pattern source subscription)) (subscription_of client var) (filter (λ live. matches live.reg.var var) lives)
    ∙ ap (λ (b : Bool). map (subscription_of client var) (filter (λ live. not ((b && bytes_eq live.reg.var pattern) && bytes_eq live.reg.source source)) (filter (λ live. matches live.reg.var var) lives))) (eq-eqb client client refl)
    ∙ ap (map (subscription_of client var)) (filter-commute (λ live. not (is_with_patterns pattern source (registration_of live))) (λ live. matches live.reg.var var) lives)

-- a variable that the pattern doesn't match is heard as before
pub subscriptions-unmatched : (client : ℕ) (pattern source var : List ℕ) (lives : List Live) → matches pattern var ≡ false → subscriptions_of client var (without_patterns pattern source lives) ≡ subscriptions_of client var lives
subscriptions-unmatched client pattern source var lives none =
    let stays : Live → Bool = λ live. not (is_with_patterns pattern source (registration_of live)) in
    ap (map (subscription_of client var)) (filter-commute (λ live. matches live.reg.var var) stays lives
    ∙ filter-both stays (λ live. matches live.reg.var var) lives (λ live matched. not_from_false (is_with_patterns pattern source (registration_of live)) (false_from_ne_true (is_with_patterns pattern source (registration_of live)) (λ has.
    both_ways (matches pattern var) none (ap (λ p. matches p var) (sym ((bytes_eq-Decides live.reg.var pattern).0 (and_parts (bytes_eq live.reg.var pattern) (bytes_eq live.reg.source source) has).0)) ∙ matched)))))

-- one is made

-- one registration more is heard through where it matches
pub subscriptions-more : (client : ℕ) (var : List ℕ) (lives : List Live) (new : Registration) →
    subscriptions_of client var (lives ++ record { reg = new.reg; made = new.made; came = [] } ∷ []) ≡ subscriptions_of client var lives ++ fresh_subscriptions client var (new ∷ [])
subscriptions-more client var lives new =
    let live : Live = record { reg = new.reg; made = new.made; came = [] } in
    ap (map (subscription_of client var)) (filter-append (λ (one : Live). matches one.reg.var var) lives (live ∷ []))
    ∙ map-append (subscription_of client var) (filter (λ one. matches one.reg.var var) lives) (filter (λ one. matches one.reg.var var) (live ∷ []))
    ∙ ap (λ more. subscriptions_of client var lives ++ more) (by (matches new.reg.var var))
  where
    by : (b : Bool) → map (subscription_of client var) (cond b (record { reg = new.reg; made = new.made; came = [] } ∷ []) []) ≡ map (fresh_subscription client) (cond b (new ∷ []) [])
    by true = refl
    by false = refl

-- registrations through which nothing of the variable came
pub subscriptions-fresh : (client : ℕ) (var : List ℕ) (lives : List Live) → All (λ live. last_stamp var live.came ≡ None) lives → fresh_subscriptions client var (map registration_of lives) ≡ subscriptions_of client var lives
subscriptions-fresh client var [] none = refl
subscriptions-fresh client var (live ∷ lives) none = through (matches live.reg.var var) (All-head (λ (one : Live). last_stamp var one.came ≡ None) live lives none) (subscriptions-fresh client var lives (All-tail (λ (one : Live). last_stamp var one.came ≡ None) live lives none))
  where
    through : (b : Bool) → last_stamp var live.came ≡ None → fresh_subscriptions client var (map registration_of lives) ≡ subscriptions_of client var lives →
        map (fresh_subscription client) (cond b (registration_of live ∷ filter (λ one. matches one.reg.var var) (map registration_of lives)) (filter (λ one. matches one.reg.var var) (map registration_of lives)))
        ≡ map (subscription_of client var) (cond b (live ∷ filter (λ one. matches one.reg.var var) lives) (filter (λ one. matches one.reg.var var) lives))
    through true none rest = λ i. record (fresh_subscription client (registration_of live)) { last = sym none i } ∷ rest i
    through false none rest = rest

-- those of the client among these and its new ones
pub own-more : (client : ℕ) (subscriptions : List SubscriptionState) (lives : List Registration) → of_client client (subscriptions ++ map (fresh_subscription client) lives) ≡ of_client client subscriptions ++ map (fresh_subscription client) lives
own-more client subscriptions lives =
    filter-append (λ (subscription : SubscriptionState). subscription.client == client) subscriptions (map (fresh_subscription client) lives)
    ∙ ap (λ more. of_client client subscriptions ++ more)
    (filter-map (λ (subscription : SubscriptionState). subscription.client == client) (fresh_subscription client) lives ∙ ap (map (fresh_subscription client)) (filter-all (λ live. client == client) lives (λ live. eq-eqb client client refl)))

-- those of another client stay
pub others-more : (client other : ℕ) (subscriptions : List SubscriptionState) (lives : List Registration) → client == other ≡ false → of_client other (subscriptions ++ map (fresh_subscription client) lives) ≡ of_client other subscriptions
others-more client other subscriptions lives apart =
    filter-append (λ (subscription : SubscriptionState). subscription.client == other) subscriptions (map (fresh_subscription client) lives)
    ∙ ap (λ more. of_client other subscriptions ++ more)
    (filter-map (λ (subscription : SubscriptionState). subscription.client == other) (fresh_subscription client) lives ∙ ap (map (fresh_subscription client)) (filter-none (λ live. client == other) lives (λ k d below. apart)))
    ∙ append-nil (of_client other subscriptions)

-- each of those just made is the client's
pub fresh-within : (client below : ℕ) (lives : List Registration) → client < below → All (λ (subscription : SubscriptionState). subscription.client < below) (map (fresh_subscription client) lives)
fresh-within client below lives lower = All-map (λ (subscription : SubscriptionState). subscription.client < below) (fresh_subscription client) lives (λ k d within. lower)
