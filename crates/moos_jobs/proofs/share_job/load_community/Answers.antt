-- A community's script that couldn't be loaded, or is refused, or was read.
use Rattle.std.proofs.Common.{◌∙◌, ap, subst, sym}
use Rattle.moos_jobs.proofs.OneFile.{not_good, not_there, was_read}
use Rattle.moos_text.specs.Refusals.{IsFirst}
use Rattle.moos_jobs.specs.Sharing.{community_of}
use Rattle.moos_jobs.proofs.share_job.load_community.Goals as goal

pub returns-in-Err-clause-ends : goal.returns-in-Err-clause-ends
returns-in-Err-clause-ends g c =
    not_there _ _ _ c.args.kind c.args.name.now _ community_of c.bytes.ensures.value _ c.in-Err.fault c.unloaded.result
    c.in-Err.ensures.failed c.in-Err.ensures.rose c.in-Err.ensures.unsure c.unloaded.ensures.failed c.unloaded.ensures.memory

pub returns-in-Ok-read_community-clause-read : goal.returns-in-Ok-read_community-clause-read
returns-in-Ok-read_community-clause-read g c =
    was_read _ _ _ c.args.kind c.args.name.now _ community_of c.bytes.ensures.value c.in-Ok.bytes.items c.in-Ok.ensures.content c.in-Ok.ensures.heard c.in-Ok-read_community.script
    (ap community_of (sym c.deref.ensures.value) ∙ c.in-Ok-read_community.ensures.read)

pub returns-clause-ends : goal.returns-clause-ends
returns-clause-ends g c =
    let fault = c.in-Err-read_community.fault in
    let first : IsFirst fault (community_of c.in-Ok.bytes.items) = subst (λ bytes. IsFirst fault (community_of bytes)) c.deref.ensures.value c.in-Err-read_community.ensures.refused in
    not_good _ _ _ c.args.kind c.args.name.now _ community_of c.bytes.ensures.value c.in-Ok.bytes.items c.in-Ok.ensures.content c.in-Ok.ensures.heard _ fault c.refused.result first c.refused.ensures
