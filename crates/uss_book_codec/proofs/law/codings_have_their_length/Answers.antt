use Rattle.uss_book_codec.proofs.Bytes.{length-coding_of}
use Rattle.uss_book_codec.proofs.law.codings_have_their_length.Goals as goal

pub returns : goal.returns
returns c = length-coding_of
