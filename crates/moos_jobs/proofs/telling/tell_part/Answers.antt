-- The database that is lent has the names and the entries of the run.
use Rattle.std.proofs.Common.{◌∙◌, ap, drop, sym, take}
use Rattle.moos_db.specs.declared.db.Db.{Db}
use Rattle.moos_io.proofs.BufferedWriting.{sent, writes_as}
use Rattle.moos_report.specs.Report.{entries_text}
use Rattle.moos_jobs.proofs.Rounds.{lines_as}
use Rattle.moos_jobs.proofs.telling.tell_part.Goals as goal

pub put_entries-requires-clause-kept : goal.put_entries-requires-clause-kept
put_entries-requires-clause-kept g c =
    let names = ap (λ (db : Db). db.names) c.value.ensures ∙ c.hold-held.ensures.names in
    let history = ap (λ (db : Db). db.history) c.value.ensures ∙ c.hold-held.ensures.history in
    lines_as c.args.kept.now (sym names) (sym history) c.requires.kept

pub returns-clause-kept : goal.returns-clause-kept
returns-clause-kept g c =
    let names = ap (λ (db : Db). db.names) c.value.ensures ∙ c.hold-held.ensures.names in
    let history = ap (λ (db : Db). db.history) c.value.ensures ∙ c.hold-held.ensures.history in
    lines_as c.put_entries.new.kept names history c.put_entries.ensures.kept

pub returns-clause-told : goal.returns-clause-told
returns-clause-told g c =
    let round = c.args.round.now in
    let names = ap (λ (db : Db). db.names) c.value.ensures ∙ c.hold-held.ensures.names in
    let history = ap (λ (db : Db). db.history) c.value.ensures ∙ c.hold-held.ensures.history in
    sent c.flush.result c.requires.clear
    (writes_as (λ i. entries_text c.args.setup.now c.args.made (c.all-iterations.ensures i) (names i) (take round.from (history i)) (drop round.from (history i))) c.put_entries.ensures.wrote)
    c.flush.ensures.writes c.flush.ensures.empty c.flush.ensures.told
