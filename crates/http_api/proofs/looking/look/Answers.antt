use Rattle.http_api.proofs.Asking.{request_found, refused_found}
use Rattle.http_api.proofs.looking.look.Goals as goal

pub returns-in-Head-clause-request : goal.returns-in-Head-clause-request
returns-in-Head-clause-request c =
    let found = c.in-Head.ensures.head in
    let asks = rw c.first_bytes.ensures at c.what_it_asks.ensures in
    request_found _ found.0 _ _ found.1 found.2.len (asks found.0 found.2)

pub returns-in-Head-clause-refused : goal.returns-in-Head-clause-refused
returns-in-Head-clause-refused c =
    let found = c.in-Head.ensures.head in
    let asks = rw c.first_bytes.ensures at c.what_it_asks.ensures in
    refused_found _ found.0 _ _ found.1 (asks found.0 found.2)
