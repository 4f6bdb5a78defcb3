use Rattle.http_api.proofs.OneText.{one_text}
use Rattle.http_api.proofs.law.the_input_decides_the_text.Goals as goal

pub returns : goal.returns
returns g c = λ decided s t u input text other end ending a b. one_text g.A.Answers.step decided s input text other t u end ending a b
