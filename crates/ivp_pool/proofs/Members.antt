-- What one member of a team did, step by step.
use Rattle.std.proofs.Common.{◌≡◌, ℕ, zero, suc, ◌<◌, List, [], ◌∷◌, ◌++◌, length, map, set, refl, sym, ap, ◌∙◌, subst, arith}
use Rattle.std.specs.Prelude.{get_or, Some}
use Rattle.std.specs.List.{sum_by}
use Rattle.std.proofs.lemmas.List.Sums.{sum_by-append, sum_by-set}
use Rattle.ivp_problem.specs.declared.node.Node.{Node}
use Rattle.ivp_problem.specs.Problems.{WeightedSum}
use Rattle.ivp_pool.specs.declared.team.Member.{Member}
use Rattle.ivp_pool.specs.declared.team.Worker.{Worker}
use Rattle.ivp_pool.specs.Hands.{EndState, hand}
use Rattle.ivp_pool.specs.Members.{Did, TookNode, KeepsShape, Same, tag_of}
use Rattle.ivp_pool.specs.Solving.{knows_of, WentOn}
use Rattle.ivp_pool.proofs.Teams.{closed_none, went_more}

-- an end through which a node was taken
abbrev pub took_one : EndState → Node → EndState
took_one end node = record { deque = end.deque; hand = hand end.hand.parts end.hand.put (end.hand.taken ++ node ∷ []) }

-- a deque into which nodes were put
abbrev pub put_more : EndState → List Node → EndState
put_more end nodes = record { deque = end.deque; hand = hand end.hand.parts (end.hand.put ++ nodes) end.hand.taken }

abbrev kept_of : EndState → EndState
kept_of end = record { deque = end.deque; hand = hand end.hand.parts [] end.hand.taken }

-- what a tray keeps, with the list of what it took, tells the whole
pub put_from_kept : (old new : EndState) (since : List Node) → new.hand.put ≡ old.hand.put ++ since → Some (kept_of new) ≡ Some (kept_of old) → new ≡ put_more old since
put_from_kept old new since put kept =
    let same : kept_of new ≡ kept_of old = cc in
    let deque = ap (λ (end : EndState). end.deque) same in
    let parts = ap (λ (end : EndState). end.hand.parts) same in
    let taken = ap (λ (end : EndState). end.hand.taken) same in
    λ t. record { deque = deque t; hand = hand (parts t) (put t) (taken t) }

-- it did nothing
pub went_none : (problem : WeightedSum) (worker : Worker) → WentOn problem [] [] worker worker
went_none problem worker =
    record {
      at_word = refl;
      scout = refl;
      later = λ key out. out;
      owned = λ owned. owned;
      count = 0;
      wraps = 0;
      counted = omega arith;
      closed = closed_none problem (knows_of worker);
    }

doors_set : (doors : List EndState) (place : ℕ) (door d : EndState) → place < length doors → door.deque ≡ (get_or doors place d).deque → door.hand.parts ≡ (get_or doors place d).hand.parts → map tag_of (set doors place door) ≡ map tag_of doors
doors_set [] place door d within deque parts = absurd (omega (arith, within))
doors_set (x ∷ xs) zero door d within deque parts = let same : tag_of door ≡ tag_of x = (λ t. (deque t, parts t)) in ap (λ tag. tag ∷ map tag_of xs) same
doors_set (x ∷ xs) (suc place) door d within deque parts = ap (λ rest. tag_of x ∷ rest) (doors_set xs place door d (omega (arith, within)) deque parts)

module _ {K : Type 0} where
  pub keeps_more : (old mid new : Member K) → KeepsShape old mid → KeepsShape mid new → KeepsShape old new
  keeps_more old mid new one two = record { deque = two.deque ∙ one.deque; parts = two.parts ∙ one.parts; doors = two.doors ∙ one.doors }

  -- a node of its own deque
  pub popped : (node : Node) (old : Member K) (deque : EndState) → deque ≡ took_one old.deque node → TookNode node old (record old { deque = deque })
  popped node old deque is =
      record {
        worker = refl;
        put = λ weigh. omega (arith, ap (λ (end : EndState). sum_by weigh end.hand.put) is);
        taken = λ weigh. omega (arith, ap (λ (end : EndState). sum_by weigh end.hand.taken) is, sum_by-append weigh old.deque.hand.taken (node ∷ []));
        keeps = record { deque = ap (λ (end : EndState). end.deque) is; parts = ap (λ (end : EndState). end.hand.parts) is; doors = refl };
      }

  -- a node that it stole where its own deque had none
  pub stolen_next : (node : Node) (old new : Member K) (deque : EndState) → deque ≡ old.deque → TookNode node (record old { deque = deque }) new → TookNode node old new
  stolen_next node old new deque same took = subst (λ (end : EndState). TookNode node (record old { deque = end }) new) same took

  pub did_none : (problem : WeightedSum) (member : Member K) → Did problem member member
  did_none problem member =
      record {
        nodes = [];
        handed = [];
        went = went_none problem member.worker;
        put = λ weigh. omega arith;
        taken = λ weigh. omega arith;
        keeps = record { deque = refl; parts = refl; doors = refl };
      }

  -- it did this, took a node, and closed it, with the children put into its deque
  pub did_next : (problem : WeightedSum) (node : Node) (since : List Node) (start old mid : Member K) (worker : Worker) (deque : EndState) → Did problem start old → TookNode node old mid → WentOn problem (node ∷ []) since mid.worker worker → deque ≡ put_more mid.deque since → Did problem start (record mid { worker = worker; deque = deque })
  did_next problem node since start old mid worker deque did taken went is =
      let first : WentOn problem (node ∷ []) since old.worker worker = subst (λ (w : Worker). WentOn problem (node ∷ []) since w worker) taken.worker went in
      record {
        nodes = did.nodes ++ node ∷ [];
        handed = did.handed ++ since;
        went = went_more problem did.nodes did.handed (node ∷ []) since start.worker old.worker worker did.went first;
        put = λ weigh.
            omega (
              arith,
              ap (λ (end : EndState). sum_by weigh end.hand.put) is,
              sum_by-append weigh mid.deque.hand.put since,
              taken.put weigh,
              did.put weigh,
              sum_by-append weigh did.handed since,
            );
        taken = λ weigh. omega (arith, ap (λ (end : EndState). sum_by weigh end.hand.taken) is, taken.taken weigh, did.taken weigh, sum_by-append weigh did.nodes (node ∷ []));
        keeps = keeps_more start mid (record mid { worker = worker; deque = deque }) (keeps_more start old mid did.keeps taken.keeps)
            (record { deque = ap (λ (end : EndState). end.deque) is; parts = ap (λ (end : EndState). end.hand.parts) is; doors = refl });
      }

  -- a node that was stolen through a door
  pub stolen : (node : Node) (old new : Member K) (place : ℕ) (door d : EndState) → place < length old.doors.items → new.worker ≡ old.worker → new.deque ≡ old.deque → new.doors.items ≡ set old.doors.items place door → door ≡ took_one (get_or old.doors.items place d) node → TookNode node old new
  stolen node old new place door d within worker deque doors is =
      let was = get_or old.doors.items place d in
      record {
        worker = worker;
        put = λ weigh.
            omega (
              arith,
              ap (λ (end : EndState). sum_by weigh end.hand.put) deque,
              ap (λ (ends : List EndState). sum_by (λ end. sum_by weigh end.hand.put) ends) doors,
              sum_by-set (λ (end : EndState). sum_by weigh end.hand.put) old.doors.items place door d within,
              ap (λ (end : EndState). sum_by weigh end.hand.put) is,
            );
        taken = λ weigh.
            omega (
              arith,
              ap (λ (end : EndState). sum_by weigh end.hand.taken) deque,
              ap (λ (ends : List EndState). sum_by (λ end. sum_by weigh end.hand.taken) ends) doors,
              sum_by-set (λ (end : EndState). sum_by weigh end.hand.taken) old.doors.items place door d within,
              ap (λ (end : EndState). sum_by weigh end.hand.taken) is,
              sum_by-append weigh was.hand.taken (node ∷ []),
            );
        keeps = record {
          deque = ap (λ (end : EndState). end.deque) deque;
          parts = ap (λ (end : EndState). end.hand.parts) deque;
          doors = ap (map tag_of) doors ∙ doors_set old.doors.items place door d within (ap (λ (end : EndState). end.deque) is) (ap (λ (end : EndState). end.hand.parts) is);
        };
      }

  -- it did this, and then nothing
  pub did_same : (problem : WeightedSum) (start old new : Member K) → Did problem start old → Same old new → Did problem start new
  did_same problem start old new did same =
      record {
        nodes = did.nodes;
        handed = did.handed;
        went = subst (λ (w : Worker). WentOn problem did.nodes did.handed start.worker w) (sym same.worker) did.went;
        put = λ weigh. omega (arith, did.put weigh, ap (λ (end : EndState). sum_by weigh end.hand.put) same.deque, ap (sum_by (λ (end : EndState). sum_by weigh end.hand.put)) same.doors);
        taken = λ weigh. omega (arith, did.taken weigh, ap (λ (end : EndState). sum_by weigh end.hand.taken) same.deque, ap (sum_by (λ (end : EndState). sum_by weigh end.hand.taken)) same.doors);
        keeps = keeps_more start old new did.keeps (record { deque = ap (λ (end : EndState). end.deque) same.deque; parts = ap (λ (end : EndState). end.hand.parts) same.deque; doors = ap (map tag_of) same.doors });
      }
