-- The helm's calls at its seat, one after the other.
use Rattle.std.proofs.Common.{◌≡◌, ℕ, suc, ◌-◌, ◌≤◌, ◌==◌, ◌*◌, true, cond, List, [], ◌∷◌, ◌++◌, length, length-append, drop, refl, sym, ap, ◌∙◌, subst, arith, append-nil, append_assoc}
use Rattle.std.proofs.lemmas.List.{append_cancel_left, drop-append-le}
use Rattle.std.proofs.lemmas.List.Elements.{filter-append}
use Rattle.std.proofs.lemmas.Bool.Decides.{nat_tests}
use Rattle.helm_core.specs.declared.helm.Helm.{Helm}
use Rattle.helm_core.specs.declared.iteration.Iteration.{Iteration}
use Rattle.helm_core.specs.Helms.{IsTicked, plan_of, StandsFor}
use Rattle.helm_core.specs.Iterations.{iteration_at}
use Rattle.helm_core.specs.Plans.{Plan}
use Rattle.helm_core.specs.Ticks.{Tick, tick_of}
use Rattle.moos_client.specs.Calls.{entries_of, entry_of, IsCalled, IsFetched, SeatState}
use Rattle.moos_db.specs.declared.mail.Letter.{Letter}
use Rattle.moos_db.specs.Database.{letters_after}
use Rattle.moos_db.proofs.Letters.{letters_are}
use Rattle.moos_post.specs.declared.entry.Call.{Call}
use Rattle.moos_post.specs.declared.entry.Call.TheVariants.{Post as Posts, Fetch}
use Rattle.moos_post.specs.declared.entry.Entry.{Entry}
use Rattle.moos_post.specs.Delivery.{mail_after}
use Rattle.moos_post.specs.History.{History, posts_of}
use Rattle.moos_play.specs.Lawful.{heard_of, iterations_of, mailed_in, opening_of, HelmSetup, ticks_of}
use Rattle.moos_play.specs.declared.helm_client.HelmClient.{HelmClient}
use Rattle.moos_play.specs.Steered.{HasOwn, helm_setup_of, Steers}
use Rattle.moos_step.specs.Steps.{Anything, HasMade, Makes}
use Rattle.moos_client.proofs.Hearing.{entries_next, heard_fetch, heard_next, heard_on, IsNext}
use Rattle.moos_play.proofs.Hearing.{iterations_many, iterations_stay, ticks_stay}

-- a seat makes whatever it makes
pub anything : {added : List Entry} {before after : SeatState} → HasMade added before after → Makes Anything before after
anything {added = added} made = record { added = added; made = made; allowed = tt }

-- a fetch is a call
abbrev pub called_of : (seat after : SeatState) (names : List (List ℕ)) (stamp : ℕ) (mail : List Letter) → IsFetched seat after names stamp mail → IsCalled seat after stamp Fetch
called_of seat after names stamp mail fetched = record { before = fetched.before; later = fetched.later; own = fetched.own; after = fetched.after }

-- nothing of the seat's own stands between what it has seen and its call
pub between_none : (seat : SeatState) (before rest : History) → HasOwn seat → before ≡ seat.seen ++ rest → entries_of seat.number before ≡ seat.mine → entries_of seat.number rest ≡ []
between_none seat before rest own is same =
    append_cancel_left (entries_of seat.number seat.seen) (entries_of seat.number rest) []
    (sym (filter-append (λ entry. entry.client == seat.number) seat.seen rest) ∙ ap (entries_of seat.number) (sym is) ∙ same ∙ sym own ∙ sym (append-nil (entries_of seat.number seat.seen)))

-- a call is the next of its client
abbrev pub called_next : (seat after : SeatState) (stamp : ℕ) (call : Call) → HasOwn seat → IsCalled seat after stamp call → IsNext seat.number seat.seen after.seen (entry_of seat.number stamp call)
called_next seat after stamp call own called = record {
  between = called.later.0;
  none = between_none seat called.before called.later.0 own called.later.1 called.own;
  own = refl;
  is = ap (λ s. s.seen) called.after ∙ ap (λ front. front ++ entry_of seat.number stamp call ∷ []) called.later.1;
}

-- the mail of a fetch is what its client hears there
pub mail_heard : (seat after : SeatState) (names : List (List ℕ)) (stamp : ℕ) (mail : List Letter) → (fetched : IsFetched seat after names stamp mail) → mail ≡ letters_after names seat.number (seat.seen ++ fetched.later.0)
mail_heard seat after names stamp mail fetched =
    letters_are (posts_of fetched.before) (mail_after names seat.number fetched.before) mail fetched.given ∙ ap (letters_after names seat.number) fetched.later.1

-- the seat has its own entries after a call
pub called_own : (seat after : SeatState) (stamp : ℕ) (call : Call) → IsCalled seat after stamp call → HasOwn after
called_own seat after stamp call called =
    subst HasOwn (sym called.after)
    (filter-append (λ entry. entry.client == seat.number) called.before (entry_of seat.number stamp call ∷ [])
    ∙ ap (λ b. entries_of seat.number called.before ++ cond b (entry_of seat.number stamp call ∷ []) []) (eq_self seat.number)
    ∙ ap (λ front. front ++ entry_of seat.number stamp call ∷ []) called.own)
  where
    eq_self : (n : ℕ) → (n == n) ≡ true
    eq_self n = grind (arith, nat_tests)

-- others go on: the helm stands as it did
pub steered_on : (names : List (List ℕ)) (s : HelmClient) (history rest : History) → Steers names s history → entries_of s.number rest ≡ [] → Steers names s (history ++ rest)
steered_on names s history rest so none =
    let heard : heard_of names s.number history ≡ heard_of names s.number (history ++ rest) = sym (heard_on (mailed_in names) s.number history rest none) in
    record {
      clock = so.clock;
      stands = subst (StandsFor s.helm) heard so.stands;
      many = ap length (sym heard) ∙ so.many;
      own = filter-append (λ entry. entry.client == s.number) history rest ∙ ap (λ end. entries_of s.number history ++ end) none ∙ append-nil (entries_of s.number history)
          ∙ so.own ∙ ap (λ heard. opening_of (helm_setup_of s) ++ ticks_of (helm_setup_of s) heard s.ticks) heard;
      same = so.same ∙ ap (λ heard. drop (s.ticks - length s.iterations) (iterations_of (plan_of s.helm) heard s.ticks)) heard;
    }

-- one tick more
pub ticked_on : (names : List (List ℕ)) (s : HelmClient) (new : Helm) (calls : ℕ) (before between after : History) (mail : List Letter) (iteration : Iteration) → Steers names s before
    → (fetched : IsNext s.number before between (entry_of s.number (s.ticks * s.period) Fetch)) → mail ≡ letters_after names s.number (before ++ fetched.between) → IsTicked s.helm new (s.ticks * s.period) mail iteration
    → IsNext s.number between after (entry_of s.number (s.ticks * s.period) (Posts iteration.posts)) → Steers names (record s { helm = new; calls = calls; ticks = suc s.ticks; iterations = s.iterations ++ iteration ∷ [] }) after
ticked_on names s new calls before between after mail iteration so fetched mail_is ticked posted = record {
  clock = subst (λ clock. clock ≤ suc s.ticks * s.period) (sym ticked.clock) (omega arith);
  stands = subst (StandsFor new) (sym heard) (ticked.stands start so.stands);
  many = ap length heard ∙ length-append start (tick ∷ []) ∙ omega (arith, so.many);
  own = subst (λ (plan : Plan). entries_of s.number after ≡ opening_of (run plan) ++ ticks_of (run plan) now (suc s.ticks)) (sym ticked.plan)
      (entries_next s.number between after posting posted ∙ ap (λ front. front ++ posting ∷ []) (entries_next s.number before between fetching fetched)
      ∙ append_assoc (entries_of s.number before) (fetching ∷ []) (posting ∷ []) ∙ ap (λ front. front ++ fetching ∷ posting ∷ []) so.own
      ∙ append_assoc (opening_of helm) (ticks_of helm start s.ticks) (fetching ∷ posting ∷ [])
      ∙ ap (λ ticks. opening_of helm ++ ticks) (ap (λ front. front ++ fetching ∷ posting ∷ []) ticks ∙ ap (λ (iteration : Iteration). ticks_of helm now s.ticks ++ fetching ∷ entry_of s.number (s.ticks * s.period) (Posts iteration.posts) ∷ []) answer));
  same = subst (λ (plan : Plan). s.iterations ++ iteration ∷ [] ≡ drop (suc s.ticks - length (s.iterations ++ iteration ∷ [])) (iterations_of plan now (suc s.ticks))) (sym ticked.plan)
      (ap (λ front. front ++ iteration ∷ []) (so.same ∙ ap (drop told) (sym (ap (λ heard. iterations_of helm.plan heard s.ticks) heard ∙ iterations_stay helm.plan start (tick ∷ []) s.ticks enough)))
      ∙ ap (λ iteration. drop told (iterations_of helm.plan now s.ticks) ++ iteration ∷ []) answer
      ∙ sym (drop-append-le told (iterations_of helm.plan now s.ticks) (iteration_at helm.plan now s.ticks ∷ []) (omega (arith, iterations_many helm.plan now s.ticks)))
      ∙ ap (λ n. drop n (iterations_of helm.plan now (suc s.ticks))) (omega (arith, length-append s.iterations (iteration ∷ []))));
}
  where
    helm : HelmSetup
    helm = helm_setup_of s

    told : ℕ
    told = s.ticks - length s.iterations

    run : Plan → HelmSetup
    run plan = record { client = s.number; plan = plan; period = s.period }

    start : List Tick
    start = heard_of names s.number before

    now : List Tick
    now = heard_of names s.number after

    tick : Tick
    tick = tick_of (s.ticks * s.period) mail

    fetching : Entry
    fetching = entry_of s.number (s.ticks * s.period) Fetch

    posting : Entry
    posting = entry_of s.number (s.ticks * s.period) (Posts iteration.posts)

    heard : now ≡ start ++ tick ∷ []
    heard = heard_next (mailed_in names) s.number between after posting posted refl ∙ heard_fetch (mailed_in names) s.number before between (s.ticks * s.period) fetched
        ∙ ap (λ mail. start ++ tick_of (s.ticks * s.period) mail ∷ []) (sym mail_is)

    enough : s.ticks ≤ length start
    enough = omega (arith, so.many)

    ticks : ticks_of helm start s.ticks ≡ ticks_of helm now s.ticks
    ticks = sym (ap (λ heard. ticks_of helm heard s.ticks) heard ∙ ticks_stay helm start (tick ∷ []) s.ticks enough)

    answer : iteration ≡ iteration_at helm.plan now s.ticks
    answer = ticked.is start so.stands ∙ ap (λ n. iteration_at helm.plan (start ++ tick ∷ []) n) so.many ∙ ap (λ heard. iteration_at helm.plan heard s.ticks) (sym heard)
