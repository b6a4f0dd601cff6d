-- The helm that found no memory on the way: at its seat, and once the first seat has seen the whole history.
use Rattle.std.proofs.Common.{◌≡◌, ℕ, suc, ◌+◌, ◌*◌, ◌≤◌, ◌==◌, List, [], ◌∷◌, ◌++◌, length, length-append, sym, ap, ◌∙◌, subst, arith, append-nil, append_assoc}
use Rattle.std.proofs.lemmas.List.{append_cancel_left}
use Rattle.std.proofs.lemmas.List.Elements.{filter-append}
use Rattle.helm_core.specs.Iterations.{iteration_at}
use Rattle.helm_core.specs.Ticks.{Tick, tick_of}
use Rattle.moos_client.specs.Calls.{entries_of, entry_of, IsCalled, IsUncalled, SeatState}
use Rattle.moos_db.specs.Database.{letters_after}
use Rattle.moos_post.specs.declared.entry.Call.TheVariants.{Post as Posts, Fetch}
use Rattle.moos_post.specs.declared.entry.Entry.{Entry}
use Rattle.moos_post.specs.History.{History}
use Rattle.moos_play.specs.declared.helm_client.HelmClient.{HelmClient}
use Rattle.moos_play.specs.Lawful.{heard_of, mailed_in, opening_of, HelmSetup, ticks_of}
use Rattle.moos_play.specs.Steered.{HasOwn, HasStopped, IsStopped, helm_setup_of, Steers}
use Rattle.moos_step.specs.Steps.{IsWhole}
use Rattle.moos_client.proofs.Hearing.{entries_next, heard_fetch, heard_on, IsNext}
use Rattle.moos_play.proofs.Hearing.{ticks_stay}
use Rattle.moos_play.proofs.Helming.{call_next}
use Rattle.turn_lock.proofs.Fronts.{begins_itself, begins_on}
use Rattle.turn_lock.specs.Passes.{Begins, known_of}

-- a helm between two ticks has left nothing of a tick
pub steered_stops : (names : List (List ℕ)) (s : HelmClient) (whole most : ℕ) (history : History) → Steers names s history → whole ≤ s.ticks → s.ticks ≤ most → IsStopped names (helm_setup_of s) whole most history
steered_stops names s whole most history so made few = record {
  left = [];
  own = append-nil (entries_of s.number history) ∙ so.own ∙ ap (λ n. opening_of (helm_setup_of s) ++ ticks_of (helm_setup_of s) (heard_of names s.number history) n) (sym so.many);
  made = omega (arith, made, so.many);
  few = omega (arith, few, so.many);
}

-- behind a fetch the post of its tick is left
pub fetched_stops : (names : List (List ℕ)) (s : HelmClient) (old new : History) → Steers names s old → IsNext s.number old new (entry_of s.number (s.ticks * s.period) Fetch) → IsStopped names (helm_setup_of s) s.ticks (s.ticks + 1) new
fetched_stops names s old new so next = record {
  left = posting ∷ [];
  own = ap (λ front. front ++ posting ∷ []) (entries_next s.number old new fetching next ∙ ap (λ front. front ++ fetching ∷ []) so.own)
      ∙ append_assoc (opening_of helm ++ ticks_of helm start count) (fetching ∷ []) (posting ∷ []) ∙ append_assoc (opening_of helm) (ticks_of helm start count) (fetching ∷ posting ∷ [])
      ∙ ap (λ ticks. opening_of helm ++ (ticks ++ fetching ∷ posting ∷ [])) ticks ∙ ap (λ n. opening_of helm ++ ticks_of helm now n) (sym many);
  made = omega (arith, many);
  few = omega (arith, many);
}
  where
    helm : HelmSetup
    helm = helm_setup_of s

    count : ℕ
    count = s.ticks

    start : List Tick
    start = heard_of names helm.client old

    now : List Tick
    now = heard_of names helm.client new

    fetching : Entry
    fetching = entry_of helm.client (count * helm.period) Fetch

    posting : Entry
    posting = entry_of helm.client (count * helm.period) (Posts (iteration_at helm.plan now count).posts)

    tick : Tick
    tick = tick_of (count * helm.period) (letters_after names helm.client (old ++ next.between))

    heard : now ≡ start ++ tick ∷ []
    heard = heard_fetch (mailed_in names) helm.client old new (count * helm.period) next

    many : length now ≡ suc count
    many = ap length heard ∙ length-append start (tick ∷ []) ∙ omega (arith, so.many)

    ticks : ticks_of helm start count ≡ ticks_of helm now count
    ticks = sym (ap (λ heard. ticks_of helm heard count) heard ∙ ticks_stay helm start (tick ∷ []) count (omega (arith, so.many)))

-- the helm at its seat, whose last call was its last
pub stops_here : (names : List (List ℕ)) (helm : HelmSetup) (whole most : ℕ) (seat : SeatState) → HasOwn seat → IsStopped names helm whole most seat.seen → HasStopped names helm whole most seat
stops_here names helm whole most seat own stopped = record { before = seat.seen; later = begins_itself seat.seen; own = own; stopped = stopped }

-- or whose next call found no memory
pub stops_uncalled : (names : List (List ℕ)) (helm : HelmSetup) (whole most : ℕ) (seat after : SeatState) → HasOwn seat → IsStopped names helm whole most seat.seen → IsUncalled seat after → HasStopped names helm whole most after
stops_uncalled names helm whole most seat after own stopped uncalled = record {
  before = seat.seen;
  later = uncalled.later;
  own = subst (λ (s : SeatState). entries_of s.number seat.seen ≡ s.mine) (sym uncalled.same) own;
  stopped = stopped;
}

-- a helm that may make its next tick, from which nothing was called
pub ready_stops : (names : List (List ℕ)) (s : HelmClient) (history : History) → Steers names s history → IsStopped names (helm_setup_of s) s.ticks (s.ticks + 1) history
ready_stops names s history so = steered_stops names s s.ticks (s.ticks + 1) history so (omega arith) (omega arith)

-- the fetch of a tick
pub tick_fetched : (names : List (List ℕ)) (s : HelmClient) (seat between : SeatState) (stamp : ℕ) → Steers names s seat.seen → seat.number ≡ s.number → HasOwn seat → stamp ≡ s.ticks * s.period → IsCalled seat between stamp Fetch
    → IsStopped names (helm_setup_of s) s.ticks (s.ticks + 1) between.seen
tick_fetched names s seat between stamp so number own stamp_is fetched =
    fetched_stops names s seat.seen between.seen so (subst (λ stamp. IsNext s.number seat.seen between.seen (entry_of s.number stamp Fetch)) stamp_is (call_next s.number seat between stamp Fetch number own fetched))

-- a helm that has stopped behind as many ticks, of at least as many
pub stops_within : (names : List (List ℕ)) (one other : HelmSetup) (whole made most more : ℕ) (seat : SeatState) → one ≡ other → whole ≡ made → most ≤ more → HasStopped names one whole most seat → HasStopped names other made more seat
stops_within names one other whole made most more seat same count raised so =
    subst (λ helm. HasStopped names helm made more seat) same
    (subst (λ made. HasStopped names one made more seat) count (record {
      before = so.before;
      later = so.later;
      own = so.own;
      stopped = record { left = so.stopped.left; own = so.stopped.own; made = so.stopped.made; few = omega (arith, so.stopped.few, raised) };
    }))

-- others go on
pub stops_on : (names : List (List ℕ)) (helm : HelmSetup) (whole most : ℕ) (history rest : History) → IsStopped names helm whole most history → entries_of helm.client rest ≡ [] → IsStopped names helm whole most (history ++ rest)
stops_on names helm whole most history rest so none = record {
  left = so.left;
  own = ap (λ entries. entries ++ so.left) (filter-append (λ entry. entry.client == helm.client) history rest ∙ ap (λ end. entries_of helm.client history ++ end) none ∙ append-nil (entries_of helm.client history))
      ∙ so.own ∙ ap (λ heard. opening_of helm ++ ticks_of helm heard (length heard)) (sym heard);
  made = omega (arith, so.made, ap length heard);
  few = omega (arith, so.few, ap length heard);
}
  where
    heard : heard_of names helm.client (history ++ rest) ≡ heard_of names helm.client history
    heard = heard_on (mailed_in names) helm.client history rest none

-- a history that has no more of the helm than its seat has made
pub stops_whole : (names : List (List ℕ)) (helm : HelmSetup) (whole most : ℕ) (seat after : SeatState) → HasStopped names helm whole most seat → seat.number ≡ helm.client → Begins after.seen seat.seen → known_of after seat.number ≡ seat.mine → IsWhole after
    → IsStopped names helm whole most after.seen
stops_whole names helm whole most seat after so number begins known full =
    subst (IsStopped names helm whole most) (sym later.1) (stops_on names helm whole most so.before later.0 so.stopped (subst (λ n. entries_of n later.0 ≡ []) number none))
  where
    later : Begins after.seen so.before
    later = begins_on so.before seat.seen after.seen so.later begins

    none : entries_of seat.number later.0 ≡ []
    none = append_cancel_left (entries_of seat.number so.before) (entries_of seat.number later.0) []
        (sym (filter-append (λ entry. entry.client == seat.number) so.before later.0) ∙ ap (entries_of seat.number) (sym later.1) ∙ full seat.number ∙ known ∙ sym so.own ∙ sym (append-nil (entries_of seat.number so.before)))

-- a helm that has made all its ticks stands as one that has stopped behind the last
pub all_stops : (names : List (List ℕ)) (helm : HelmSetup) (s : HelmClient) (most : ℕ) (seat : SeatState) → helm_setup_of s ≡ helm → HasOwn seat → Steers names s seat.seen → s.ticks ≡ most → HasStopped names helm s.ticks most seat
all_stops names helm s most seat same own steers reached =
    subst (λ helm. HasStopped names helm s.ticks most seat) same
    (stops_here names (helm_setup_of s) s.ticks most seat own (steered_stops names s s.ticks most seat.seen steers (omega arith) (omega (arith, reached))))

-- a tick whose calls were all made, but whose iteration found no memory
pub posted_stops : (names : List (List ℕ)) (s t : HelmClient) (seat : SeatState) → helm_setup_of t ≡ helm_setup_of s → t.ticks ≡ s.ticks + 1 → HasOwn seat → Steers names t seat.seen → HasStopped names (helm_setup_of s) s.ticks (s.ticks + 1) seat
posted_stops names s t seat same ticks own so =
    subst (λ helm. HasStopped names helm s.ticks (s.ticks + 1) seat) same
    (stops_here names (helm_setup_of t) s.ticks (s.ticks + 1) seat own (steered_stops names t s.ticks (s.ticks + 1) seat.seen so (omega (arith, ticks)) (omega (arith, ticks))))
