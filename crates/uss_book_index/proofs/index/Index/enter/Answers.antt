use Rattle.std.proofs.Common.{◌∙◌, sym}
use Rattle.uss_book_index.proofs.Numbered.{jobs_numbered, tags_numbered}
use Rattle.uss_book_index.proofs.index.Index.enter.Goals as goal

pub returns : goal.returns
returns c = λ es is s m flight ordinal pair place.
    record {
      jobs = c.job_after-self.ensures ∙ jobs_numbered es c.args.e.now c.args.self.now.jobs m is.jobs;
      tags = c.tag_after-self.ensures ∙ tags_numbered es c.args.e.now c.args.self.now.tags m is.tags;
      firsts = c.enter.ensures es c.args.e.now is.firsts (sym c.mark_of.ensures) place;
      tallies = c.enter-2.ensures es is.tallies;
      flights = c.enter-3.ensures es is.flights s m.due (sym flight) place;
      ordinals = c.enter-4.ensures es c.args.e.now is.ordinals (sym ordinal) place;
      records = c.enter-5.ensures es c.args.e.now is.records s m.due (sym flight) (sym pair);
    }
