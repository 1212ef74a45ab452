use Rattle.endpoint_http.proofs.message.+read_response_on.Given as goal

abbrev pub decreases-read_response_on : goal.decreases-read_response_on
decreases-read_response_on g l = l.interims
