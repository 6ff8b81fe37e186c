-- A response (RFC 9112, section 4): its status line, its fields and its body.
use Rattle.std.specs.Prelude.{ℕ, Bool, List, [], ◌∷◌, ◌++◌, codes, decimal, length, if◌then◌else◌}
use Rattle.relay_listing.specs.Pieces.{joined}
use Rattle.relay_page.specs.declared.response.Kind.{Kind}
use Rattle.relay_page.specs.declared.response.Kind.TheVariants.{Html, Metrics, JsonLines, Plain}
use Rattle.relay_page.specs.declared.response.Code.{Code}
use Rattle.relay_page.specs.declared.response.Code.TheVariants.{Found, BadRequest, Forbidden, NotFound, BadMethod}
use Rattle.relay_page.specs.declared.response.Code.TheVariants.{TooLarge, Unavailable}
use Rattle.relay_page.specs.declared.response.TheConstants.{FIELDS}
use Rattle.relay_page.specs.declared.request.Refusal.{Refusal}
use Rattle.relay_page.specs.declared.request.Refusal.TheVariants as refusals

-- the status code and its phrase (RFC 9110, section 15; RFC 6585, section 5)
abbrev pub code_text : Code → List ℕ
code_text Found = codes "200 OK"
code_text BadRequest = codes "400 Bad Request"
code_text Forbidden = codes "403 Forbidden"
code_text NotFound = codes "404 Not Found"
code_text BadMethod = codes "405 Method Not Allowed"
code_text TooLarge = codes "431 Request Header Fields Too Large"
code_text Unavailable = codes "503 Service Unavailable"

-- the status code of a refusal
abbrev pub code_of : Refusal → Code
code_of refusals.BadRequest = BadRequest
code_of refusals.Forbidden = Forbidden
code_of refusals.NotFound = NotFound
code_of refusals.BadMethod = BadMethod
code_of refusals.TooLarge = TooLarge

-- the media type of the body
abbrev pub kind_text : Kind → List ℕ
kind_text Html = codes "text/html; charset=utf-8"
kind_text Metrics = codes "text/plain; version=0.0.4; charset=utf-8"
kind_text JsonLines = codes "application/x-ndjson"
kind_text Plain = codes "text/plain; charset=utf-8"

-- a response's head: its status line, the length and type of its body, and the fields of every response
abbrev pub head_text : Code → Kind → ℕ → List ℕ
head_text code kind size = joined (
    codes "HTTP/1.1 " ∷ code_text code ∷ codes "\r\nContent-Type: " ∷ kind_text kind
    ∷ codes "\r\nContent-Length: " ∷ decimal size ∷ FIELDS.now ∷ [])

-- the head, followed by the body unless only the head was asked for
abbrev pub response_text : Code → Kind → Bool → List ℕ → List ℕ
response_text code kind has_body body =
    head_text code kind (length body) ++ (if has_body then body else [])
