mod StateFields
mod StateWidths
