mod Agreed
mod Calling
mod Certificates
mod Files
mod Games
mod Verdicts
