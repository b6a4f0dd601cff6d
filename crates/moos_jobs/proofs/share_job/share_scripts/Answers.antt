-- What was put is both reports of the shared histories.
use Rattle.std.proofs.Common.{◌++◌, refl}
use Rattle.moos_post.specs.History.{History}
use Rattle.command_line.proofs.Loading.{nothing_put, put_ends}
use Rattle.command_line.specs.declared.status.Status.TheVariants.{Done}
use Rattle.moos_jobs.proofs.ShareReports.{HasEntries, reports_of}
use Rattle.moos_jobs.specs.Sharing.{community_report, share_outcomes}
use Rattle.moos_jobs.specs.declared.task.ShareTask.{ShareTask}
use Rattle.moos_jobs.proofs.share_job.share_scripts.Goals as goal

pub returns-in-Ok : goal.returns-in-Ok
returns-in-Ok g c =
    let task : ShareTask = c.args.task in
    let one : History = c.in-Ok.shared.first.history in
    let two : History = c.in-Ok.shared.second.history in
    let entries : HasEntries task = λ one two. c.entries_law.ensures task.order task.first task.second task.rules one two c.requires.first.valid c.requires.second.valid c.requires.rules in
    put_ends share_outcomes _ task _ Done c.written.result _ c.report_both.result (λ all. all) refl
    (reports_of task one two _ c.reports_law.ensures.two entries
    (c.bridged_law.ensures.each task.order task.first task.second task.rules one two c.in-Ok.ensures.shared c.requires.fitting)
    (c.bridged_law.ensures.none_left_out task.order task.first task.second task.rules one two c.in-Ok.ensures.shared c.requires.fitting) c.requires.first c.requires.second c.in-Ok.ensures.shared
    (λ i. community_report (c.in-Ok.ensures.first i) one ++ community_report (c.in-Ok.ensures.second i) two))
    c.report_both.ensures.ok c.report_both.ensures.front c.report_both.ensures.fares c.report_both.ensures.rose c.written.ensures.all c.written.ensures.fault

pub returns : goal.returns
returns g c = nothing_put share_outcomes _ _ _
