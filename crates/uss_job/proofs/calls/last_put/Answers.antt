use Rattle.std.proofs.Common.{ap, sym}
use Rattle.std.specs.Option.{option_map}
use Rattle.uss_law_book.specs.Attempts.{put_of}
use Rattle.uss_job.proofs.Planned.{last_is_made, none_is_made}
use Rattle.uss_job.proofs.calls.last_put.Goals as goal

pub returns-in-Some : goal.returns-in-Some
returns-in-Some c =
    let made = last_is_made c.args.entries.now.entries c.args.owner.now c.args.opening.now c.in-Some.trial.now c.are_legal.ensures c.requires.owner c.requires.opened (sym c.in-Some.ensures) in
    rw made c.put_by_wish.ensures

pub returns-in-None : goal.returns-in-None
returns-in-None c = sym (ap (option_map put_of) (none_is_made c.args.entries.now.entries c.args.opening.now (sym c.in-None.ensures)))
