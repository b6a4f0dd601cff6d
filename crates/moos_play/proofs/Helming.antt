-- The helm's tick, from the calls that its seat made.
use Rattle.std.proofs.Common.{◌≡◌, ℕ, suc, ◌*◌, ◌+◌, List, [], ◌∷◌, ◌++◌, sym, ap, ◌∙◌, subst, arith}
use Rattle.helm_core.specs.declared.helm.Helm.{Helm}
use Rattle.helm_core.specs.declared.iteration.Iteration.{Iteration}
use Rattle.helm_core.specs.Helms.{IsTicked}
use Rattle.moos_client.specs.Calls.{entry_of, IsCalled, IsFetched, SeatState}
use Rattle.moos_db.specs.declared.mail.Letter.{Letter}
use Rattle.moos_db.specs.Database.{letters_after}
use Rattle.moos_post.specs.declared.entry.Call.{Call}
use Rattle.moos_post.specs.declared.entry.Call.TheVariants.{Post as Posts, Fetch}
use Rattle.moos_post.specs.declared.value.Pair.{Pair}
use Rattle.moos_play.specs.declared.helm_client.HelmClient.{HelmClient}
use Rattle.moos_play.specs.Steered.{HasOwn, Steers}
use Rattle.moos_client.proofs.Hearing.{IsNext}
use Rattle.moos_play.proofs.Steering.{called_next, called_of, called_own, mail_heard, ticked_on}

-- a call of the client with a number
pub call_next : (client : ℕ) (seat after : SeatState) (stamp : ℕ) (call : Call) → seat.number ≡ client → HasOwn seat → IsCalled seat after stamp call → IsNext client seat.seen after.seen (entry_of client stamp call)
call_next client seat after stamp call is own called = subst (λ n. IsNext n seat.seen after.seen (entry_of n stamp call)) is (called_next seat after stamp call own called)

-- a fetch of the client with a number, and its mail
fetch_next : (client : ℕ) (seat after : SeatState) (names : List (List ℕ)) (stamp : ℕ) (mail : List Letter) → seat.number ≡ client → HasOwn seat → IsFetched seat after names stamp mail
    → (next : IsNext client seat.seen after.seen (entry_of client stamp Fetch)) × (mail ≡ letters_after names client (seat.seen ++ next.between))
fetch_next client seat after names stamp mail is own fetched =
    subst (λ n. (next : IsNext n seat.seen after.seen (entry_of n stamp Fetch)) × (mail ≡ letters_after names n (seat.seen ++ next.between))) is
    (called_next seat after stamp Fetch own (called_of seat after names stamp mail fetched), mail_heard seat after names stamp mail fetched)

-- the number stays
number_on : (seat after : SeatState) (stamp : ℕ) (call : Call) → IsCalled seat after stamp call → after.number ≡ seat.number
number_on seat after stamp call called = ap (λ s. s.number) called.after

-- a tick, with the helm's client before its first call and before its last
pub ticks_once : (names : List (List ℕ)) (s t u : HelmClient) (helm : Helm) (seat between after : SeatState) (stamp : ℕ) (mail : List Letter) (iteration : Iteration) (posts : List Pair) (done : List Iteration)
    → t ≡ record s { calls = t.calls } → u ≡ record t { helm = helm; calls = u.calls } → done ≡ u.iterations ++ iteration ∷ [] → stamp ≡ s.ticks * s.period → Steers names s seat.seen → seat.number ≡ s.number → HasOwn seat
    → IsFetched seat between names stamp mail → IsTicked t.helm helm stamp mail iteration → IsCalled between after stamp (Posts posts) → posts ≡ iteration.posts → Steers names (record u { ticks = u.ticks + 1; iterations = done }) after.seen
ticks_once names s t u helm seat between after stamp mail iteration posts done counted is done_is stamp_is so number own fetched ticked posted posts_is =
    subst (λ done. Steers names (record u { ticks = u.ticks + 1; iterations = done }) after.seen) (sym done_is)
    (subst (λ (u : HelmClient). Steers names (record u { ticks = u.ticks + 1; iterations = u.iterations ++ iteration ∷ [] }) after.seen) (sym (is ∙ ap (λ (t : HelmClient). record t { helm = helm; calls = u.calls }) counted))
    (subst (λ n. Steers names (record s { helm = helm; calls = u.calls; ticks = n; iterations = s.iterations ++ iteration ∷ [] }) after.seen) count
    (ticked_on names s helm u.calls seat.seen between.seen after.seen mail iteration so first.0 first.1
    (subst (λ stamp. IsTicked s.helm helm stamp mail iteration) stamp_is (subst (λ (t : HelmClient). IsTicked t.helm helm stamp mail iteration) counted ticked)) last)))
  where
    count : suc s.ticks ≡ s.ticks + 1
    count = omega arith

    called : IsCalled seat between stamp Fetch
    called = called_of seat between names stamp mail fetched

    first : (next : IsNext s.number seat.seen between.seen (entry_of s.number (s.ticks * s.period) Fetch)) × (mail ≡ letters_after names s.number (seat.seen ++ next.between))
    first = subst (λ stamp. (next : IsNext s.number seat.seen between.seen (entry_of s.number stamp Fetch)) × (mail ≡ letters_after names s.number (seat.seen ++ next.between))) stamp_is (fetch_next s.number seat between names stamp mail number own fetched)

    last : IsNext s.number between.seen after.seen (entry_of s.number (s.ticks * s.period) (Posts iteration.posts))
    last = subst (λ (posts : List Pair). IsNext s.number between.seen after.seen (entry_of s.number (s.ticks * s.period) (Posts posts))) posts_is
        (subst (λ stamp. IsNext s.number between.seen after.seen (entry_of s.number stamp (Posts posts))) stamp_is (call_next s.number between after stamp (Posts posts) (number_on seat between stamp Fetch called ∙ number) (called_own seat between stamp Fetch called) posted))
