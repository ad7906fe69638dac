-- The bytes of requests and responses as this project writes them: RFC 9112, with the fields in one fixed order.
use Rattle.std.specs.Prelude.{ℕ, ◌==◌, nat_le, ◌&&◌, List, [], ◌++◌, length, codes, decimal, unwrap_or, if◌then◌else◌}
use Rattle.http.specs.StatusCode.{reason_phrase}
use Rattle.uss_http_request.specs.declared.request.Request.{Request}
use Rattle.uss_http_response.specs.declared.response.Response.{Response}

-- method, path, host, client, type, length; and the body
abbrev pub request_text : (host : List ℕ) → Request → List ℕ
request_text host request =
    request.method ++ codes " " ++ request.path ++ codes " HTTP/1.1\r\nHost: " ++ host
    ++ codes "\r\nUSS-Client: " ++ request.client
    ++ codes "\r\nContent-Type: application/json\r\nContent-Length: " ++ decimal (length request.body)
    ++ codes "\r\nConnection: close\r\n\r\n" ++ request.body

-- the response with this status and this body
abbrev pub response_with : ℕ → List ℕ → Response
response_with status body = record { status = status; body = body }

-- the canonical phrase of a status of three digits, and none of any other number
abbrev pub phrase_of : ℕ → List ℕ
phrase_of status = if nat_le 100 status && nat_le status 999 then unwrap_or (reason_phrase status) [] else []

-- status and phrase
abbrev pub status_text : ℕ → List ℕ
status_text status = codes "HTTP/1.1 " ++ decimal status ++ codes " " ++ phrase_of status

-- type, length and body, which a 204 doesn't have
abbrev pub rest_text : Response → List ℕ
rest_text response =
    if response.status == 204 then codes "\r\nConnection: close\r\n\r\n"
    else (
    codes "\r\nContent-Type: application/json\r\nContent-Length: " ++ decimal (length response.body)
    ++ codes "\r\nConnection: close\r\n\r\n" ++ response.body
    )

abbrev pub response_text : Response → List ℕ
response_text response = status_text response.status ++ rest_text response

-- the body that is sent: a 204 has none
abbrev pub body_text : Response → List ℕ
body_text response = if response.status == 204 then [] else response.body
